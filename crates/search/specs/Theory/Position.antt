-- The position of a place is the number of its subterm.
use Rattle.std.specs.Prelude.{ℕ, suc, ◌+◌, ◌-◌, ◌<◌, ◌≡◌, refl, cond, List, [], ◌∷◌, ltb}
use Rattle.std.proofs.Common.{arith, sym, ap, lt-ltb, le-ltb}
use Rattle.std.proofs.Math.Option.{Option, none, some, map, none-ne-some, map-eq-some_iff}
use Rattle.terms.specs.Term.{Term, letter, zero, one, add, mul, size}
use Rattle.search.specs.Line.{Side, l, r}
use Rattle.search.specs.Path.{subterm, replace}
use Rattle.search.specs.Place.{subterm_at, place_at, replace_at}
use Rattle.search.specs.Position.{position}
use Rattle.search.specs.Theory.Positions.{subterm_place, replace_place}

-- the number of a place
abbrev Numbered : List Side → Term → ℕ → Type 0
Numbered p t i = (i < size t) × (place_at t i ≡ p)

left_numbered : (s t : Term) (p : List Side) (i : ℕ) → Numbered p s i → (suc i < 1 + size s + size t) × (cond (ltb i (size s)) (l ∷ place_at s i) (r ∷ place_at t (i - size s)) ≡ l ∷ p)
left_numbered s t p i (h, e) = (omega arith, rw (lt-ltb i (size s) h) (ap (λ q. l ∷ q) e))

right_numbered : (s t : Term) (p : List Side) (i : ℕ) → Numbered p t i
    → (suc (size s + i) < 1 + size s + size t) × (cond (ltb (size s + i) (size s)) (l ∷ place_at s (size s + i)) (r ∷ place_at t (size s + i - size s)) ≡ r ∷ p)
right_numbered s t p i (h, e) =
    let k : size s + i - size s ≡ i = omega arith in
    (omega arith, rw (le-ltb (size s + i) (size s) (omega arith), k) (ap (λ q. r ∷ q) e))

root_place : (t : Term) → Numbered [] t 0
unfolding place_at size
root_place (letter n) = (omega arith, refl)
root_place zero = (omega arith, refl)
root_place one = (omega arith, refl)
root_place (add s t) = (omega arith, refl)
root_place (mul s t) = (omega arith, refl)

pub position_numbered : (p : List Side) (t : Term) {i : ℕ} → position p t ≡ some i → (i < size t) × (place_at t i ≡ p)
unfolding position place_at size
position_numbered [] t {i} e = let k : 0 ≡ i = cc in rw (← k) (root_place t)
position_numbered (d ∷ p) (letter n) e = absurd (none-ne-some _ e)
position_numbered (d ∷ p) zero e = absurd (none-ne-some _ e)
position_numbered (d ∷ p) one e = absurd (none-ne-some _ e)
position_numbered (l ∷ p) (add s t) e = let (k, f, g) = (map-eq-some_iff suc (position p s)).0 e in rw (← g) (left_numbered s t p k (position_numbered p s f))
position_numbered (r ∷ p) (add s t) e =
    let (k, f, g) = (map-eq-some_iff (λ i. suc (size s + i)) (position p t)).0 e in rw (← g) (right_numbered s t p k (position_numbered p t f))
position_numbered (l ∷ p) (mul s t) e = let (k, f, g) = (map-eq-some_iff suc (position p s)).0 e in rw (← g) (left_numbered s t p k (position_numbered p s f))
position_numbered (r ∷ p) (mul s t) e =
    let (k, f, g) = (map-eq-some_iff (λ i. suc (size s + i)) (position p t)).0 e in rw (← g) (right_numbered s t p k (position_numbered p t f))

-- the subterm there, and another term put in there
module _ (p : List Side) (t : Term) {i : ℕ} (e : position p t ≡ some i) where
  pub subterm_position : subterm p t ≡ some (subterm_at t i)
  subterm_position = rw (position_numbered p t e).1 at (subterm_place t i)

  pub replace_position : (u : Term) → replace p t u ≡ some (replace_at t i u)
  replace_position u = rw (position_numbered p t e).1 at (replace_place t i u)

map_none : {A B : Type 0} (f : A → B) (o : Option A) → map f o ≡ none → o ≡ none
map_none f none e = refl
map_none f (some x) e = absurd (none-ne-some _ (sym e))

-- a place without a position is not in the term
pub no_position : (p : List Side) (t : Term) → position p t ≡ none → subterm p t ≡ none
unfolding position subterm
no_position [] t e = absurd (none-ne-some _ (sym e))
no_position (d ∷ p) (letter n) e = refl
no_position (d ∷ p) zero e = refl
no_position (d ∷ p) one e = refl
no_position (l ∷ p) (add s t) e = no_position p s (map_none _ (position p s) e)
no_position (r ∷ p) (add s t) e = no_position p t (map_none _ (position p t) e)
no_position (l ∷ p) (mul s t) e = no_position p s (map_none _ (position p s) e)
no_position (r ∷ p) (mul s t) e = no_position p t (map_none _ (position p t) e)

-- the place has the same position after the replacement
pub position_replaced : (p : List Side) (s u : Term) {t : Term} → replace p s u ≡ some t → position p t ≡ position p s
unfolding position replace
position_replaced [] s u e = refl
position_replaced (d ∷ p) (letter n) u e = absurd (none-ne-some _ e)
position_replaced (d ∷ p) zero u e = absurd (none-ne-some _ e)
position_replaced (d ∷ p) one u e = absurd (none-ne-some _ e)
position_replaced (l ∷ p) (add s t) u e =
    let (v, f, g) = (map-eq-some_iff (λ v. add v t) (replace p s u)).0 e in rw (← g) (ap (map suc) (position_replaced p s u f))
position_replaced (r ∷ p) (add s t) u e =
    let (v, f, g) = (map-eq-some_iff (λ v. add s v) (replace p t u)).0 e in rw (← g) (ap (map (λ i. suc (size s + i))) (position_replaced p t u f))
position_replaced (l ∷ p) (mul s t) u e =
    let (v, f, g) = (map-eq-some_iff (λ v. mul v t) (replace p s u)).0 e in rw (← g) (ap (map suc) (position_replaced p s u f))
position_replaced (r ∷ p) (mul s t) u e =
    let (v, f, g) = (map-eq-some_iff (λ v. mul s v) (replace p t u)).0 e in rw (← g) (ap (map (λ i. suc (size s + i))) (position_replaced p t u f))
