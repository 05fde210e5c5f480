-- A part is replaced by a related one: so are the wholes, whatever relation holds of wholes whose parts it holds of.
use Rattle.std.specs.Prelude.{◌≡◌}
use Rattle.std.proofs.Math.Option.{some, none-ne-some, map-eq-some_iff}
use mathlib.Core.List.{List, [], ◌∷◌}
use Rattle.terms.specs.Term.{Term, letter, zero, one, add, mul}
use Rattle.search.specs.Line.{Side, l, r}
use Rattle.search.specs.Path.{subterm, replace}

pub record Congruence (R : Term → Term → Type 0) : Type 0 where
  pub reflexive : (t : Term) → R t t
  pub add : (s t u v : Term) → R s u → R t v → R (add s t) (add u v)
  pub mul : (s t u v : Term) → R s u → R t v → R (mul s t) (mul u v)

module _ {R : Term → Term → Type 0} (C : Congruence R) where
  pub replace_related : (p : List Side) (s a b v : Term) → subterm p s ≡ some a → replace p s b ≡ some v → R a b → R s v
  unfolding subterm replace
  replace_related [] s a b v e f h =
      let i : s ≡ a = cc in
      let j : b ≡ v = cc in
      rw (i, ← j) h
  replace_related (d ∷ p) (letter n) a b v e f h = absurd (none-ne-some _ e)
  replace_related (d ∷ p) zero a b v e f h = absurd (none-ne-some _ e)
  replace_related (d ∷ p) one a b v e f h = absurd (none-ne-some _ e)
  replace_related (l ∷ p) (add s t) a b v e f h =
      let (u, i, j) = (map-eq-some_iff (λ u. add u t) (replace p s b)).0 f in rw (← j) (C.add s t u t (replace_related p s a b u e i h) (C.reflexive t))
  replace_related (r ∷ p) (add s t) a b v e f h =
      let (u, i, j) = (map-eq-some_iff (λ u. add s u) (replace p t b)).0 f in rw (← j) (C.add s t s u (C.reflexive s) (replace_related p t a b u e i h))
  replace_related (l ∷ p) (mul s t) a b v e f h =
      let (u, i, j) = (map-eq-some_iff (λ u. mul u t) (replace p s b)).0 f in rw (← j) (C.mul s t u t (replace_related p s a b u e i h) (C.reflexive t))
  replace_related (r ∷ p) (mul s t) a b v e f h =
      let (u, i, j) = (map-eq-some_iff (λ u. mul s u) (replace p t b)).0 f in rw (← j) (C.mul s t s u (C.reflexive s) (replace_related p t a b u e i h))
