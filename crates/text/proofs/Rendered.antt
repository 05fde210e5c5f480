-- The proof text of a term by the numbers of its run, and by its parts.
use Prim.Native.Nat.{ℕ, suc, ◌+◌, ◌-◌, ◌<◌, ◌≤◌}
use native.Mathlib.Omega.{arith}
use mathlib.Core.Logic.{⊎_elim}
use mathlib.Core.Bool.{Bool, true, false, cond, not}
use mathlib.Core.Path.{◌≡◌, refl, sym, ap, ◌∙◌}
use mathlib.Core.List.{List, [], ◌∷◌, ◌++◌, append_assoc}
use lib.Dec.{eqb, ltb}
use Rattle.std.specs.Prelude.{Option, Some, None}
use Rattle.std.specs.Option.{unwrap_or}
use Rattle.std.specs.List.{slice_get, position_or_len}
use Rattle.std.proofs.lemmas.List.Recursion.{is_position_or_len}
use Rattle.std.proofs.lemmas.Option.{slice_get_within, slice_get-get_or, get_or_from_slice_get}
use lib.ListN.{length, drop, get_or}
use borrow.Author.Tests.{ne_eqb, lt-ltb, le-ltb}
use Rattle.terms.specs.Term.{Term, letter, zero, one, add, mul}
use Rattle.terms.specs.Run.{ZERO, ONE, ADD, run}
use Rattle.terms.specs.Held.{Fine, Holds}
use Rattle.terms.specs.Promises.{Ends}
use Rattle.terms.specs.Theory.Order.{below?}
use Rattle.terms.proofs.Positions.{drop_head}
use Rattle.terms.proofs.Held.{size_pos, holds_within, holds_add, holds_mul}
use Rattle.text.specs.Bytes.{ascii}
use Rattle.text.specs.Proof.{ref, app, call, index_of, variable, term}
use Rattle.text.specs.Rendered.{atom, operator}
use Rattle.text.specs.Writer.{Writes}
use Rattle.text.specs.declared.writer.Writer.{Writer}
use Rattle.text.proofs.Writing.{then, put_as}

-- ---- the place of a letter

-- the first name that is n, or else the number of names
abbrev first_place : List ℕ → ℕ → ℕ
first_place names n = position_or_len (eqb n) names

index_first : (n : ℕ) (names : List ℕ) → index_of n names ≡ first_place names n
unfolding index_of
index_first n names = is_position_or_len (index_of n) (eqb n) refl (λ m ms. go (eqb n m) (index_of n ms)) names
  where
    go : (b : Bool) (k : ℕ) → elim b [ true ↦ 0 | false ↦ suc k ] ≡ cond b 0 (1 + k)
    go true k = refl
    go false k = omega arith

first_within : (n : ℕ) (names : List ℕ) → first_place names n ≤ length names
first_within n [] = omega arith
first_within n (m ∷ ms) = go (first_within n ms) (eqb n m)
  where
    go : first_place ms n ≤ length ms → (b : Bool) → cond (not b) (1 + first_place ms n) 0 ≤ suc (length ms)
    go h true = omega arith
    go h false = omega arith

pub index_found : (n : ℕ) (names : List ℕ) (r : Option ℕ) → r ≡ cond (ltb (first_place names n) (length names)) (Some (first_place names n)) None
    → unwrap_or r (length names) ≡ index_of n names
index_found n names r e =
    ⊎_elim
    (λ h. rw (e, lt-ltb (first_place names n) (length names) h) (sym (index_first n names)))
    (λ h. let f : length names ≡ first_place names n = omega (arith, first_within n names) in rw (e, le-ltb (first_place names n) (length names) h) (f ∙ sym (index_first n names)))
    (below? (first_place names n) (length names))

-- ---- atoms and operators

pub put_ref : {o o₁ o₂ o₃ : Writer} (name : List ℕ) → Writes (ascii "(ref ") o o₁ → Writes name o₁ o₂ → Writes (ascii ")") o₂ o₃ → Writes (ref name) o o₃
unfolding ref ascii
put_ref name p q r = put_as (append_assoc (ascii "(ref ") name (ascii ")")) (then (then p q) r)

module _ (names : List ℕ) (n : ℕ) where
  pub atom_letter : n < ZERO → ref (variable (index_of n names)) ≡ atom names n
  unfolding atom
  atom_letter h = rw (lt-ltb n ZERO h, atom)

  pub atom_zero : n ≡ ZERO → ref (ascii "zeroA") ≡ atom names n
  unfolding atom
  atom_zero e = rw e

  pub atom_one : ZERO ≤ n → (n ≡ ZERO → ⊥) → ref (ascii "oneA") ≡ atom names n
  unfolding atom
  atom_one h e = rw (le-ltb n ZERO h, atom) (rw (ne_eqb n ZERO e))

pub operator_add : (n : ℕ) → n ≡ ADD → ascii "(app (app (ref add) " ≡ operator n
unfolding operator
operator_add n e = rw e

pub operator_mul : (n : ℕ) → (n ≡ ADD → ⊥) → ascii "(app (app (ref mul) " ≡ operator n
unfolding operator
operator_mul n e = rw (ne_eqb n ADD e, operator)

-- ---- the first number of a run

pub read_found : (xs : List ℕ) (i : ℕ) {x : ℕ} → Some x ≡ slice_get xs i → (i < length xs) × (get_or xs i 0 ≡ x)
read_found xs i {x} e = (slice_get_within xs i x (sym e), get_or_from_slice_get xs i x 0 (sym e))

pub first_found : (xs : List ℕ) {x : ℕ} → Some x ≡ slice_get xs 0 → (0 < length xs) × (get_or xs 0 0 ≡ x)
first_found xs e = read_found xs 0 e

pub first_missing : (xs : List ℕ) → None ≡ slice_get xs 0 → length xs ≤ 0
first_missing [] e = omega arith
first_missing (x ∷ xs) e = let z : ◌≡◌ {A = ℕ} 0 1 = cc in absurd (omega arith)

-- no last number either
pub read_missing : (xs : List ℕ) → None ≡ slice_get xs (length xs - 1) → length xs ≡ 0
read_missing xs e =
    ⊎_elim
    (λ h. let p = slice_get-get_or xs (length xs - 1) 0 (omega arith) in let q = e ∙ p in let z : ◌≡◌ {A = ℕ} 0 1 = cc in absurd (omega arith))
    (λ h. omega arith)
    (below? 0 (length xs))

-- ---- a term held at a position

-- a term that starts at a position of a run is at the front of what the run has from there on
pub held_tail : {xs : List ℕ} {i : ℕ} {t : Term} → Holds xs i t → Holds (drop i xs) 0 t
held_tail h = record { fine = h.fine; rest = h.rest; here = h.here }

pub held_in : {xs ys : List ℕ} {i : ℕ} {t : Term} → ys ≡ drop i xs → Holds xs i t → Holds ys 0 t
held_in e h = rw e (held_tail h)

pub held_past : {xs : List ℕ} {i : ℕ} {t : Term} → length xs ≤ i → Holds xs i t → ⊥
held_past {t = t} h k = omega (arith, holds_within k, size_pos t)

atom_term : (names xs : List ℕ) (i : ℕ) (t : Term) → get_or xs i 0 < ADD → Holds xs i t → atom names (get_or xs i 0) ≡ term names t
unfolding run Fine term
atom_term names xs i (letter n) h k = let e = (drop_head xs i n k.rest k.here).1 in ap (atom names) e ∙ sym (atom_letter names n k.fine)
atom_term names xs i zero h k = sym (atom_zero names (get_or xs i 0) (drop_head xs i ZERO k.rest k.here).1)
atom_term names xs i one h k =
    let e = (drop_head xs i ONE k.rest k.here).1 in ap (atom names) e ∙ sym (atom_one names ONE (omega arith) (λ p. omega arith))
atom_term names xs i (add s t) h k = absurd (omega (arith, (holds_add k).0))
atom_term names xs i (mul s t) h k = absurd (omega (arith, (holds_mul k).0))

pub put_atom_term : {o o₁ : Writer} (names xs : List ℕ) (i : ℕ) → get_or xs i 0 < ADD → Writes (atom names (get_or xs i 0)) o o₁
    → (t : Term) → Holds xs i t → Writes (term names t) o o₁
put_atom_term names xs i h p t k = put_as (atom_term names xs i t h k) p

-- how the text of a sum or product goes on after its left part
closing : (x y : ℕ) (ss ts : List ℕ) → ((ss ++ (x ∷ y ∷ [])) ++ ts) ++ (x ∷ []) ≡ (ss ++ (x ∷ [])) ++ (y ∷ (ts ++ (x ∷ [])))
closing x y ss ts = simp append_assoc

abbrev around : List ℕ → List ℕ → List ℕ → List ℕ
around f ss ts = (((f ++ ss) ++ ascii ") ") ++ ts) ++ ascii ")"

module _ (names : List ℕ) (s t : Term) where
  text_add : around (ascii "(app (app (ref add) ") (term names s) (term names t) ≡ term names (add s t)
  unfolding term call app ref ascii
  text_add = ap (λ l. ascii "(app (app (ref add) " ++ l) (closing 41 32 (term names s) (term names t))

  text_mul : around (ascii "(app (app (ref mul) ") (term names s) (term names t) ≡ term names (mul s t)
  unfolding term call app ref ascii
  text_mul = ap (λ l. ascii "(app (app (ref mul) " ++ l) (closing 41 32 (term names s) (term names t))

-- the parts of the sum or product that is held at i, the left at i + 1 and the right at j
record Node (names xs : List ℕ) (i j : ℕ) (t : Term) : Type 0 where
  left : Term
  right : Term
  first : Holds xs (i + 1) left
  second : Holds xs j right
  text : around (operator (get_or xs i 0)) (term names left) (term names right) ≡ term names t

node : (names xs : List ℕ) (i j : ℕ) (t : Term) → ADD ≤ get_or xs i 0 → Ends xs (i + 1) j → Holds xs i t → Node names xs i j t
unfolding run Fine
node names xs i j (letter n) h e k = absurd (omega (arith, k.fine, (drop_head xs i n k.rest k.here).1))
node names xs i j zero h e k = absurd (omega (arith, (drop_head xs i ZERO k.rest k.here).1))
node names xs i j one h e k = absurd (omega (arith, (drop_head xs i ONE k.rest k.here).1))
node names xs i j (add s t) h e k =
    let p = holds_add k in
    record {
      left = s;
      right = t;
      first = p.1;
      second = rw (e.exact s p.1) p.2;
      text = ap (λ f. around f (term names s) (term names t)) (sym (operator_add (get_or xs i 0) p.0)) ∙ text_add names s t;
    }
node names xs i j (mul s t) h e k =
    let p = holds_mul k in
    record {
      left = s;
      right = t;
      first = p.1;
      second = rw (e.exact s p.1) p.2;
      text = ap (λ f. around f (term names s) (term names t)) (sym (operator_mul (get_or xs i 0) (λ q. omega (arith, p.0)))) ∙ text_mul names s t;
    }

pub put_node : {o o₁ o₂ o₃ o₄ o₅ : Writer} (names xs : List ℕ) (i j : ℕ) → ADD ≤ get_or xs i 0 → Ends xs (i + 1) j
    → Writes (operator (get_or xs i 0)) o o₁
    → ((u : Term) → Holds xs (i + 1) u → Writes (term names u) o₁ o₂)
    → Writes (ascii ") ") o₂ o₃
    → ((u : Term) → Holds xs j u → Writes (term names u) o₃ o₄)
    → Writes (ascii ")") o₄ o₅
    → (t : Term) → Holds xs i t → Writes (term names t) o o₅
put_node names xs i j h ends p q r s z t k =
    let n = node names xs i j t h ends k in
    put_as n.text (then (then (then (then p (q n.left n.first)) r) (s n.right n.second)) z)
