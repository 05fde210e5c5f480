-- The pieces of the proof text: the parts and contexts of terms, and the names that are applied to them.
use Prim.Native.Nat.{ℕ, suc, ◌+◌, ◌-◌, ◌≤◌, ◌<◌}
use native.Mathlib.Omega.{arith}
use native.Mathlib.Nat.{add-zero, zero-add, sub-zero}
use mathlib.Core.Option.{none, some}
use Rattle.std.specs.Prelude.{Option as Answer, Some, None}
use mathlib.Core.Path.{◌≡◌, refl, sym, ap, subst, ◌∙◌}
use mathlib.Core.List.{List, [], ◌∷◌, ◌++◌, append_assoc, append-nil}
use lib.ListN.{length, get_or, drop}
use Rattle.terms.specs.Term.{Term, letter, zero, one, add, mul, size}
use Rattle.terms.specs.Run.{ADD, run}
use Rattle.terms.specs.Held.{Fine, Holds}
use Rattle.terms.proofs.Positions.{drop_head}
use Rattle.terms.proofs.Held.{holds_add, holds_mul}
use Rattle.search.specs.Law.{Law, Name}
use Rattle.search.specs.Line.{Direction, back, Side, l, r}
use Rattle.search.specs.Path.{subterm}
use Rattle.search.specs.Position.{position}
use Rattle.search.specs.Place.{place_at}
use Rattle.search.specs.Coded.{side_of}
use Rattle.search.specs.Traced.{OnSide, Turned, Turns}
use Rattle.search.specs.Used.{Enters, PartOn}
use Rattle.search.specs.declared.chain.Side as declared
use Rattle.text.specs.Bytes.{ascii}
use Rattle.text.specs.Proof.{ref, app, lam, call, hole, part, term, applied, context, at_place, one_line, binders}
use Rattle.text.specs.Rendered.{operator}
use Rattle.text.specs.Writer.{Writes}
use Rattle.text.specs.declared.writer.Writer.{Writer}
use Rattle.text.specs.Framed.{frame, ends, opens, closes}
use Rattle.text.proofs.Writing.{then, put_as}
use Rattle.text.proofs.Rendered.{held_tail}

-- ---- atoms

-- an atom is its own part, and has no context
pub record Atom (t : Term) : Type 0 where
  pub own : (d : Side) → part d t ≡ t
  pub bare : (names : List ℕ) (d : Side) → context names d t ≡ []

pub atom : {xs : List ℕ} {i : ℕ} (t : Term) → get_or xs i 0 < ADD → Holds xs i t → Atom t
unfolding part context
atom (letter n) k h = record { own = λ d. refl; bare = λ names d. refl }
atom zero k h = record { own = λ d. refl; bare = λ names d. refl }
atom one k h = record { own = λ d. refl; bare = λ names d. refl }
atom (add u v) k h = absurd (omega (arith, (holds_add h).0))
atom (mul u v) k h = absurd (omega (arith, (holds_mul h).0))

-- ---- sums and products

-- the head of an atom's run is below the numbers of sums and products
low : {xs : List ℕ} {i n : ℕ} (t : Term) → ADD ≤ get_or xs i 0 → Holds xs i t → run t ≡ n ∷ [] → n < ADD → ⊥
low {xs} {i} {n} t k h e q = omega (arith, (drop_head xs i n h.rest (h.here ∙ ap (λ l. l ++ h.rest) e)).1)

-- the parts of a sum or product that starts at position i, and its contexts
pub record Node (xs : List ℕ) (i : ℕ) (t : Term) : Type 0 where
  pub held_left : Holds xs (i + 1) (part l t)
  pub held_right : Holds xs (i + 1 + size (part l t)) (part r t)
  pub before : (names : List ℕ) → operator (get_or xs i 0) ++ (term names (part l t) ++ ascii ") (ref hole))") ≡ context names r t
  pub after : (names : List ℕ) → operator (get_or xs i 0) ++ (ascii "(ref hole)) " ++ (term names (part r t) ++ ascii ")")) ≡ context names l t

pub node : {xs : List ℕ} {i : ℕ} (t : Term) → ADD ≤ get_or xs i 0 → Holds xs i t → Node xs i t
unfolding run part context operator ascii call app ref hole Fine
node (letter n) k h = absurd (low (letter n) k h refl (omega (arith, h.fine)))
node zero k h = absurd (low zero k h refl (omega arith))
node one k h = absurd (low one k h refl (omega arith))
node (add u v) k h =
    let p = holds_add h in
    record { held_left = p.1; held_right = p.2; before = λ names. rw p.0 (simp append_assoc); after = λ names. rw p.0 (simp append_assoc) }
node (mul u v) k h =
    let p = holds_mul h in
    record { held_left = p.1; held_right = p.2; before = λ names. rw p.0 (simp append_assoc); after = λ names. rw p.0 (simp append_assoc) }

-- ---- parts

subterm_part : (d : Side) (t : Term) {p : Term} → subterm (d ∷ []) t ≡ some p → part d t ≡ p
unfolding subterm part
subterm_part d (letter n) e = let z : ◌≡◌ {A = ℕ} 0 1 = cc in absurd (omega arith)
subterm_part d zero e = let z : ◌≡◌ {A = ℕ} 0 1 = cc in absurd (omega arith)
subterm_part d one e = let z : ◌≡◌ {A = ℕ} 0 1 = cc in absurd (omega arith)
subterm_part l (add u v) e = cc
subterm_part r (add u v) e = cc
subterm_part l (mul u v) e = cc
subterm_part r (mul u v) e = cc

-- an atom is its own part
own_part : (d : Side) (t : Term) → position (d ∷ []) t ≡ none → part d t ≡ t
unfolding position part
own_part d (letter n) e = refl
own_part d zero e = refl
own_part d one e = refl
own_part l (add u v) e = let z : ◌≡◌ {A = ℕ} 0 1 = cc in absurd (omega arith)
own_part r (add u v) e = let z : ◌≡◌ {A = ℕ} 0 1 = cc in absurd (omega arith)
own_part l (mul u v) e = let z : ◌≡◌ {A = ℕ} 0 1 = cc in absurd (omega arith)
own_part r (mul u v) e = let z : ◌≡◌ {A = ℕ} 0 1 = cc in absurd (omega arith)

module _ {xs : List ℕ} {d : Side} {found : Answer ℕ} (P : PartOn xs 0 d found) (t : Term) (h : Holds xs 0 t) where
  pub part_found : (at : ℕ) → found ≡ Some at → Holds (drop at xs) 0 (part d t)
  part_found at e =
      let E = subst (Enters xs 0 t d) e (P.exact t h) in
      rw (subterm_part d t E.is) (held_tail E.held)

  pub part_missing : found ≡ None → Holds xs 0 (part d t)
  part_missing e = rw (own_part d t (subst (Enters xs 0 t d) e (P.exact t h) [])) h

pub part_size : (d : Side) (t : Term) → size (part d t) ≤ size t
unfolding part size
part_size d (letter n) = omega arith
part_size d zero = omega arith
part_size d one = omega arith
part_size l (add u v) = omega arith
part_size r (add u v) = omega arith
part_size l (mul u v) = omega arith
part_size r (mul u v) = omega arith

-- ---- names applied

module _ (names : List ℕ) where
  pub symmetry_text : (ws : List Law) (n : Name) (u v : Term)
      → ascii "(app (app (app (ref eq_symm) " ++ (term names v ++ (ascii ") " ++ (term names u ++ (ascii ") " ++ (applied names ws n v u ++ ascii ")"))))) ≡ at_place names ws back n u v
  unfolding at_place call app ref ascii
  symmetry_text ws n u v = simp append_assoc

  -- a line below the root is one on the part, in its frame
  frame_text : (ws : List Law) (x : Side) (p : List Side) (d : Direction) (n : Name) (u v : Term)
      → frame names x u v ++ (one_line names ws p d n (part x u) (part x v) ++ ascii ")") ≡ one_line names ws (x ∷ p) d n u v
  unfolding one_line frame call app ref lam ascii
  frame_text ws x p d n u v = simp append_assoc

  module _ (ws : List Law) (d : Direction) (n : Name) {xs : List ℕ} {at : ℕ} {turn : Answer (declared.Side × ℕ)} (T : Turns xs 0 at turn) {u : Term} (v : Term) (h : Holds xs 0 u) (q : at < size u) where
    turned : Turned xs 0 at u turn
    turned = T.exact u h (rw (sub-zero at) q)

    -- a line at the root
    pub line_here : {o o₁ : Writer} → turn ≡ None → Writes (at_place names ws d n u v) o o₁ → Writes (one_line names ws (place_at u at) d n u v) o o₁
    unfolding one_line
    line_here e p = let f : place_at u at ≡ [] = rw (sub-zero at) at (subst (Turned xs 0 at u) e turned) in rw f p

    -- a line in a part
    module _ (x : declared.Side) (from : ℕ) (e : turn ≡ Some (x, from)) where
      on_side : OnSide xs u (at - 0) (side_of x) from at
      on_side = subst (Turned xs 0 at u) e turned

      part_is : part (side_of x) u ≡ on_side.part
      part_is = subterm_part (side_of x) u on_side.is

      pub below_held : Holds (drop from xs) 0 (part (side_of x) u)
      below_held = rw part_is (held_tail on_side.held)

      pub below_inside : at - from < size (part (side_of x) u)
      below_inside = rw part_is on_side.inside

      pub line_below : {o o₁ o₂ o₃ : Writer} → Writes (frame names (side_of x) u v) o o₁
          → Writes (one_line names ws (place_at (part (side_of x) u) (at - from)) d n (part (side_of x) u) (part (side_of x) v)) o₁ o₂ → Writes (ascii ")") o₂ o₃
          → Writes (one_line names ws (place_at u at) d n u v) o o₃
      line_below p k z =
          let turns : place_at u at ≡ side_of x ∷ place_at (part (side_of x) u) (at - from) =
          rw part_is (rw (sub-zero at) at on_side.place) in
          put_as (frame_text ws (side_of x) (place_at (part (side_of x) u) (at - from)) d n u v ∙ ap (λ z. one_line names ws z d n u v) (sym turns)) (then p (then k z))

  pub ends_text : (s u v : Term) (p q : List ℕ)
      → ends names s u v ++ (p ++ (ascii ") " ++ (q ++ ascii ")"))) ≡ call (ascii "eq_trans") (term names s ∷ term names u ∷ term names v ∷ p ∷ q ∷ [])
  unfolding ends call app ref ascii
  ends_text s u v p q = simp append_assoc

-- ---- binders

open_from : (ns : List ℕ) (i : ℕ) (p : List ℕ) → opens (i + length ns) ++ (p ++ closes (length ns)) ≡ opens i ++ binders i ns p
unfolding binders opens closes lam ascii
open_from [] i p = rw (add-zero i, append-nil p)
open_from (n ∷ ns) i p =
    let e : i + suc (length ns) ≡ suc i + length ns = omega arith in
    ap (λ k. opens k ++ (p ++ (closes (length ns) ++ ascii ")"))) e
    ∙ ap (λ t. opens (suc i + length ns) ++ t) (sym (append_assoc p (closes (length ns)) (ascii ")")))
    ∙ sym (append_assoc (opens (suc i + length ns)) (p ++ closes (length ns)) (ascii ")"))
    ∙ ap (λ t. t ++ ascii ")") (open_from ns (suc i) p)
    ∙ simp append_assoc

pub binders_text : (ns p : List ℕ) → opens (length ns) ++ (p ++ closes (length ns)) ≡ binders 0 ns p
unfolding opens
binders_text ns p = rw (zero-add (length ns)) at (open_from ns 0 p)
