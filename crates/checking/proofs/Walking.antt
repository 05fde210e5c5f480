-- A place followed side by side: what is left of it, at the subterm reached.
use Rattle.std.proofs.Common.{◌≡◌, ℕ, ◌+◌, ◌-◌, List, [], ◌∷◌, refl, ap, ◌∙◌, arith, Some, None}
use Rattle.std.proofs.Math.Option.{Option, none, some, map}
use Rattle.search.proofs.Using.{shifted}
use Rattle.terms.specs.Term.{Term}
use Rattle.terms.specs.Held.{IsRun, Holds}
use Rattle.terms.proofs.Held.{holds_whole}
use Rattle.search.specs.Line.{Side}
use Rattle.search.specs.Position.{position}
use Rattle.search.specs.Used.{PartOn}

-- of the place p of t the sides q are left, at the term u that starts at position n
pub record Walks (xs : List ℕ) (t : Term) (p : List Side) (n : ℕ) (q : List Side) : Type 0 where
  pub reached : Term
  pub held : Holds xs n reached
  pub positions : position p t ≡ map (λ i. n + i) (position q reached)

map_twice : (f g : ℕ → ℕ) (o : Option ℕ) → map f (map g o) ≡ map (λ i. f (g i)) o
map_twice f g none = refl
map_twice f g (some i) = refl

map_self : (o : Option ℕ) → o ≡ map (λ i. 0 + i) o
map_self none = refl
map_self (some i) = ap some (omega arith)

module _ {xs : List ℕ} {t : Term} {p : List Side} where
  -- at the root all is left
  pub walk_starts : IsRun xs t → Walks xs t p 0 p
  walk_starts h = record { reached = t; held = holds_whole h; positions = map_self (position p t) }

  module _ {n : ℕ} where
    pub walk_on : {d : Side} {q : List Side} (k : ℕ) → PartOn xs n d (Some k) → Walks xs t p n (d ∷ q) → Walks xs t p k q
    walk_on {d} {q} k P w =
        let e = P.exact w.reached w.held in
        let later = e.later in
        record {
          reached = e.part;
          held = e.held;
          positions =
              w.positions ∙ ap (map (λ i. n + i)) (e.positions q) ∙ map_twice (λ i. n + i) (λ i. k - n + i) (position q e.part)
              ∙ shifted (λ i. n + (k - n + i)) (λ i. k + i) (λ i. omega arith) (position q e.part);
        }

    -- there is no such part, and so no such place
    pub walk_nowhere : {d : Side} {q : List Side} → PartOn xs n d None → Walks xs t p n (d ∷ q) → position p t ≡ none
    walk_nowhere {q = q} P w = w.positions ∙ ap (map (λ i. n + i)) (P.exact w.reached w.held q)

    -- nothing is left: this is the place
    pub walk_ends : Walks xs t p n [] → position p t ≡ some n
    unfolding position
    walk_ends w = w.positions ∙ ap some (omega arith)
