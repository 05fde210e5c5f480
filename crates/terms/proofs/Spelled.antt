-- Whether a list spells as many terms as are still to come, one number after another.
use Prim.Native.Nat.{ℕ, zero, suc, ◌+◌, ◌-◌, ◌<◌, ◌≤◌}
use native.Mathlib.Omega.{arith}
use native.Mathlib.Numerals.{add-one, sub-one}
use mathlib.Core.Path.{◌≡◌, refl, sym, ap, ◌∙◌}
use mathlib.Core.Bool.{Bool, true, false}
use mathlib.Core.Option.{Option, none, some}
use mathlib.Core.List.{List, [], ◌∷◌}
use lib.Dec.{eqb, eqb-zero-suc, eqb-suc-zero, eqb-suc-suc}
use lib.ListN.{length, drop, get_or, drop_of_length-le}
use Rattle.terms.specs.Term as term
use Rattle.terms.specs.Term.{Term, letter, add, mul}
use Rattle.terms.specs.Run.{ADD, MUL}
use Rattle.terms.specs.Build.{Token, atom, plus, times, operate, push, next, build, single, read}
use Rattle.terms.specs.Numbers.{token, read_run, is_some}
use Rattle.terms.specs.Promises.{Reads}
use Rattle.terms.specs.Theory.ReadRun.{Code, letter_code, zero_code, one_code, add_code, mul_code, no_code, token_none, code, run_read, read_is_run}
use Rattle.terms.proofs.Positions.{drop_one}

-- whether there are k of them
unfoldable counts : ℕ → Option (List Term) → Bool
counts k none = false
counts k (some ts) = eqb k (length ts)

unfoldable pub spells : List ℕ → ℕ → Bool
unfolding counts
spells xs k = counts k (build token xs)

counts_atom : (t : Term) (k : ℕ) (b : Option (List Term)) → counts (suc k) (next (some (atom t)) b) ≡ counts k b
unfolding counts next push
counts_atom t k none = refl
counts_atom t k (some ts) = eqb-suc-suc k (length ts)

counts_operate : (f : Term → Term → Term) (k : ℕ) (ts : List Term) → counts (suc k) (operate f ts) ≡ eqb (suc (suc k)) (length ts)
unfolding counts operate
counts_operate f k [] = sym (eqb-suc-zero (suc k))
counts_operate f k (s ∷ []) = sym (eqb-suc-suc (suc k) 0 ∙ eqb-suc-zero k)
counts_operate f k (s ∷ t ∷ ts) = sym (eqb-suc-suc (suc k) (suc (length ts)))

operate_over : (f : Term → Term → Term) (ts : List Term) → counts 0 (operate f ts) ≡ false
unfolding counts operate
operate_over f [] = refl
operate_over f (s ∷ []) = refl
operate_over f (s ∷ t ∷ ts) = eqb-zero-suc (length ts)

counts_two : (j : Token) (f : Term → Term → Term) → ((ts : List Term) → push j ts ≡ operate f ts) → (k : ℕ) (b : Option (List Term))
    → counts (suc k) (next (some j) b) ≡ counts (suc (suc k)) b
unfolding counts next
counts_two j f e k none = refl
counts_two j f e k (some ts) = rw (e ts) (counts_operate f k ts)

-- no item comes after the last term
counts_over : (o : Option Token) (b : Option (List Term)) → counts 0 (next o b) ≡ false
unfolding counts next push
counts_over none b = refl
counts_over (some j) none = refl
counts_over (some (atom t)) (some ts) = eqb-zero-suc (length ts)
counts_over (some plus) (some ts) = operate_over add ts
counts_over (some times) (some ts) = operate_over mul ts

module _ (k : ℕ) (b : Option (List Term)) where
  code_atom : {x : ℕ} {o : Option Token} → Code x o → x < ADD → counts (suc k) (next o b) ≡ counts k b
  code_atom (letter_code {n = n} h) p = counts_atom (letter n) k b
  code_atom zero_code p = counts_atom term.zero k b
  code_atom one_code p = counts_atom term.one k b
  code_atom add_code p = absurd (omega arith)
  code_atom mul_code p = absurd (omega arith)
  code_atom (no_code h) p = absurd (omega arith)

  code_two : {x : ℕ} {o : Option Token} → Code x o → ADD ≤ x → x ≤ MUL → counts (suc k) (next o b) ≡ counts (suc (suc k)) b
  unfolding push
  code_two (letter_code h) p q = absurd (omega arith)
  code_two zero_code p q = absurd (omega arith)
  code_two one_code p q = absurd (omega arith)
  code_two add_code p q = counts_two plus add (λ ts. refl) k b
  code_two mul_code p q = counts_two times mul (λ ts. refl) k b
  code_two (no_code h) p q = absurd (omega arith)

-- the test from position i on, with k terms to come and the answer b, one number further
module _ (xs : List ℕ) (i k : ℕ) (b : Bool) (e : spells (drop i xs) k ≡ b) where
  abbrev x : ℕ
  x = get_or xs i 0

  abbrev rest : Option (List Term)
  rest = build token (drop (i + 1) xs)

  here : i < length xs → counts k (next (token x) rest) ≡ b
  unfolding spells build
  here h = rw (drop_one xs i h) at e

  pub spells_atom : i < length xs → (k ≡ 0 → ⊥) → x < ADD → spells (drop (i + 1) xs) (k - 1) ≡ b
  unfolding spells
  spells_atom h p q = go k p (here h)
    where
      go : (k : ℕ) → (k ≡ 0 → ⊥) → counts k (next (token x) rest) ≡ b → counts (k - 1) rest ≡ b
      go zero p e = absurd (p refl)
      go (suc k) p e = rw sub-one (sym (code_atom k rest (code x) q) ∙ e)

  pub spells_two : i < length xs → (k ≡ 0 → ⊥) → x ≤ MUL → ADD ≤ x → spells (drop (i + 1) xs) (k + 1) ≡ b
  unfolding spells
  spells_two h p m q = go k p (here h)
    where
      go : (k : ℕ) → (k ≡ 0 → ⊥) → counts k (next (token x) rest) ≡ b → counts (k + 1) rest ≡ b
      go zero p e = absurd (p refl)
      go (suc k) p e = rw (add-one (suc k)) (sym (code_two k rest (code x) q m) ∙ e)

  pub spells_over : i < length xs → k ≡ 0 → false ≡ b
  spells_over h p = sym (counts_over (token x) rest) ∙ (rw p at (here h))

  pub spells_foul : i < length xs → MUL < x → false ≡ b
  unfolding next counts
  spells_foul h m = rw (token_none x m) at (here h)

  pub spells_end : length xs ≤ i → eqb k 0 ≡ b
  unfolding spells build
  spells_end h = rw (drop_of_length-le xs h) at e

spells_one : (xs : List ℕ) → is_some (read_run xs) ≡ spells xs 1
unfolding is_some read_run read single spells
spells_one xs = go (build token xs)
  where
    go : (b : Option (List Term)) → is_some (single b) ≡ counts 1 b
    go none = refl
    go (some []) = refl
    go (some (t ∷ [])) = refl
    go (some (t ∷ u ∷ ts)) = sym (eqb-suc-suc 0 (suc (length ts)) ∙ eqb-zero-suc (length ts))

-- the promise, from what was found of the numbers

pub some_of : {A : Type 0} (o : Option A) → is_some o ≡ true → (x : A) × (o ≡ some x)
unfolding is_some
some_of none e = absurd (let z : ◌≡◌ {A = ℕ} 0 1 = cc in omega arith)
some_of (some x) e = (x, refl)

pub reads : {xs : List ℕ} {r : Bool} → r ≡ spells xs 1 → Reads xs r
unfolding is_some
reads {xs} e =
    let is = e ∙ sym (spells_one xs) in
    record {
      is = is;
      sound = λ p. let (t, h) = some_of (read_run xs) (sym is ∙ p) in (t, read_is_run h);
      complete = λ t h. is ∙ ap is_some (run_read h);
    }
