-- The side on which a place of a term is.
use Prim.Native.Nat.{ℕ, suc, ◌+◌, ◌-◌, ◌≤◌, ◌<◌}
use native.Mathlib.Omega.{arith}
use mathlib.Core.Path.{◌≡◌, refl, ap, ◌∙◌}
use mathlib.Core.Bool.{cond}
use mathlib.Core.Option.{some}
use mathlib.Core.List.{List, [], ◌∷◌}
use lib.Dec.{ltb}
use borrow.Author.Tests.{lt-ltb, le-ltb}
use Rattle.std.specs.Prelude.{Some, None}
use Rattle.terms.specs.Term.{Term, letter, zero, one, add, mul, size}
use Rattle.terms.specs.Held.{Holds}
use Rattle.terms.specs.Promises.{Ends}
use Rattle.terms.proofs.Held.{holds_add, holds_mul}
use Rattle.search.specs.Line.{l, r}
use Rattle.search.specs.Path.{subterm}
use Rattle.search.specs.Place.{place_at}
use Rattle.search.specs.Traced.{OnSide, Turns}
use Rattle.search.specs.declared.chain.Side.TheVariants.{Left, Right}

-- the parts of a term that starts at position i, and its places below the root
record Parts (xs : List ℕ) (i : ℕ) (t : Term) : Type 0 where
  left : Term
  right : Term
  is_left : subterm (l ∷ []) t ≡ some left
  is_right : subterm (r ∷ []) t ≡ some right
  count : size t ≡ 1 + size left + size right
  held_left : Holds xs (i + 1) left
  held_right : Holds xs (i + 1 + size left) right
  places : (j : ℕ) → place_at t (suc j) ≡ cond (ltb j (size left)) (l ∷ place_at left j) (r ∷ place_at right (j - size left))

parts : {xs : List ℕ} {i : ℕ} (t : Term) → Holds xs i t → 1 < size t → Parts xs i t
unfolding size place_at subterm
parts (letter n) h k = absurd (omega arith)
parts zero h k = absurd (omega arith)
parts one h k = absurd (omega arith)
parts (add u v) h k =
    let p = holds_add h in record { left = u; right = v; is_left = refl; is_right = refl; count = refl; held_left = p.1; held_right = p.2; places = λ j. refl }
parts (mul u v) h k =
    let p = holds_mul h in record { left = u; right = v; is_left = refl; is_right = refl; count = refl; held_left = p.1; held_right = p.2; places = λ j. refl }

at_root : (t : Term) → place_at t 0 ≡ []
unfolding place_at
at_root (letter n) = refl
at_root zero = refl
at_root one = refl
at_root (add u v) = refl
at_root (mul u v) = refl

module _ (xs : List ℕ) (from at : ℕ) where
  pub turn_here : at ≤ from → Turns xs from at None
  turn_here h = record { nears = h; exact = λ t p k. let e : at - from ≡ 0 = omega arith in rw e (at_root t) }

  -- the left part ends at e
  module _ (h : from < at) (e : ℕ) (E : Ends xs (from + 1) e) where
    module _ {t : Term} (p : Parts xs from t) where
      middle : e ≡ from + 1 + size p.left
      middle = E.exact p.left p.held_left

      below : place_at t (at - from) ≡ cond (ltb (at - (from + 1)) (size p.left)) (l ∷ place_at p.left (at - (from + 1))) (r ∷ place_at p.right (at - (from + 1) - size p.left))
      below = let i : at - from ≡ suc (at - (from + 1)) = omega arith in ap (place_at t) i ∙ p.places (at - (from + 1))

      on_left : at < e → OnSide xs t (at - from) l (from + 1) at
      on_left q =
          let i : at - (from + 1) < size p.left = omega (arith, middle) in
          record { part = p.left; is = p.is_left; held = p.held_left; inside = i; place = below ∙ rw (lt-ltb (at - (from + 1)) (size p.left) i) }

      on_right : e ≤ at → at - from < size t → OnSide xs t (at - from) r e at
      on_right q k =
          let i : size p.left ≤ at - (from + 1) = omega (arith, middle) in
          let j : at - (from + 1) - size p.left ≡ at - e = omega (arith, middle) in
          record {
            part = p.right;
            is = p.is_right;
            held = rw middle p.held_right;
            inside = omega (arith, middle, p.count);
            place = below ∙ rw (le-ltb (at - (from + 1)) (size p.left) i, j);
          }

    pub turn_left : at < e → Turns xs from at (Some (Left, from + 1))
    turn_left q = record { nears = (omega arith, omega arith); exact = λ t p k. on_left (parts t p (omega arith)) q }

    pub turn_right : e ≤ at → Turns xs from at (Some (Right, e))
    turn_right q = record { nears = (omega (arith, E.forward), q); exact = λ t p k. on_right (parts t p (omega arith)) q k }
