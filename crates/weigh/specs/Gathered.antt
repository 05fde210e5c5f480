-- What `gather` promises: the terms of one total that wait, by their slots, in term order.
use Rattle.std.specs.Prelude.{ℕ, ◌≤◌, ◌<◌, ◌≡◌, false, List, [], ◌∷◌, length, take}
use Rattle.terms.specs.Lists.{◌∈◌, Distinct}
use Rattle.terms.specs.Sort.{lost, insert, Sorted}
use Rattle.weigh.specs.Weigh.{Weighed, terms}
use Rattle.weigh.specs.Layer.{by_term, layer_at}
use Rattle.weigh.specs.Slots.{weighed_at, WeighSlots}

-- each number names the slot of the term at its place
pub data SlotsOf (es : List Weighed) : List ℕ → List Weighed → Type 0 where
  none : SlotsOf es [] []
  more : {k : ℕ} {ks : List ℕ} {x : Weighed} {xs : List Weighed} → k < length es → weighed_at es k ≡ x → SlotsOf es ks xs → SlotsOf es (k ∷ ks) (x ∷ xs)

-- of `insert`: of the terms ys, which the first `count` numbers of `order` name, and that of slot k the first are named then
pub record Inserts (ws : List ℕ) (k most : ℕ) (order : List ℕ) (count : ℕ) (order' : List ℕ) (r : ℕ) : Type 0 where
  pub few : r ≤ most
  pub exact : (es ys : List Weighed) → WeighSlots ws es → k < length es → Sorted lost by_term ys → SlotsOf es (take count order) ys
      → SlotsOf es (take r order') (take most (insert lost by_term (weighed_at es k) ys))

-- of `gather`: the first r numbers of `order` name the first terms of the layer of total l: all of them, unless `most` are named
pub record Gathers (ws : List ℕ) (count l most : ℕ) (order : List ℕ) (r : ℕ) : Type 0 where
  pub few : r ≤ most
  pub exact : (es : List Weighed) → WeighSlots ws es → length es ≡ count → Distinct (terms es) → ((z : Weighed) → z ∈ es → z.total ≡ l → z.opened ≡ false)
      → SlotsOf es (take r order) (take r (layer_at l es)) × (r < most → r ≡ length (layer_at l es))
