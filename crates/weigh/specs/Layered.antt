-- What the parts of the search promise: one layer opened, and layer after layer.
use Rattle.std.specs.Prelude.{ℕ, ◌+◌, ◌-◌, ◌≤◌, ◌<◌, ◌≡◌, true, false, List, [], ◌∷◌, ◌++◌, length}
use Rattle.std.proofs.Math.Option.{none, some}
use Rattle.terms.specs.Lists.{◌∈◌, Distinct}
use Rattle.terms.specs.Term.{Term}
use Rattle.terms.specs.Held.{IsRun}
use Rattle.search.specs.Law.{semiring}
use Rattle.search.specs.Line.{Line, lines, allowed}
use Rattle.search.specs.Path.{Searchable}
use Rattle.search.specs.Searched.{limits_of}
use Rattle.search.specs.declared.bounded_search.Limits.{Limits}
use Rattle.weigh.specs.Weigh.{weights_of, Weighed, terms, start, opened_count, spread, weighed}
use Rattle.weigh.specs.Outcome.{held}
use Rattle.weigh.specs.Claims.{Heavy}
use Rattle.weigh.specs.Slots.{weighed_at, WeighSlots}
use Rattle.weigh.specs.Gathered.{SlotsOf}
use Rattle.weigh.specs.Theory.State.{State}
use Rattle.weigh.specs.Theory.Layers.{Layer}
use Rattle.weigh.specs.declared.layers.Stop.{Stop}
use Rattle.weigh.specs.declared.layers.Stop.TheVariants.{Right, InHand, Cut, Over, Full}
use Rattle.weigh.specs.declared.layers.Ended.{Ended}
use Rattle.weigh.specs.Searched.{Why, Ends}

-- the lines that are tried on a term
abbrev pub next : Limits → Term → List Line
next m u = allowed (limits_of m) (lines semiring u)

-- where a search stands that ends with v noted: es are noted now, and so many of them opened
pub record Stands (weights : List ℕ) (cost : ℕ) (m : Limits) (s t : Term) (v : List Weighed) (ws : List ℕ) (noted opened : ℕ) (es : List Weighed) : Type 0 where
  pub held : WeighSlots ws es
  pub counted : length es ≡ noted
  pub count : opened_count es ≡ opened
  pub most : opened ≤ m.nodes
  pub state : State (Searchable semiring (limits_of m)) (weights_of weights) cost s t es
  pub is : v ≡ spread (next m) (weights_of weights) cost t (m.nodes - opened) es

-- of the layer of total l the terms in the slots ks wait, in order, and no others unless those are more than the f that may be opened
pub record Awaits (l f : ℕ) (ks : List ℕ) (es : List Weighed) : Type 0 where
  pub xs : List Weighed
  pub others : List Weighed
  pub layer : Layer l (xs ++ others) es
  pub named : SlotsOf es ks xs
  pub all : length ks ≤ f → others ≡ []
  pub light : (z : Weighed) → z ∈ es → z.opened ≡ true → z.total ≤ l

-- the layers below total l are opened, and no others
pub record Below (l : ℕ) (es : List Weighed) : Type 0 where
  pub light : (z : Weighed) → z ∈ es → z.opened ≡ true → z.total < l
  pub heavy : (z : Weighed) → z ∈ es → z.opened ≡ false → l ≤ z.total

-- after a layer the search goes on at total l, or it ended
abbrev pub Goes : Stop → List ℕ → ℕ → Limits → ℕ → ℕ → Term → Term → List Weighed → List ℕ → ℕ → ℕ → Type 0
Goes Over weights cost m slots l s t v ws noted opened = (es : List Weighed) × Stands weights cost m s t v ws noted opened es × Below l es
Goes (Right k) weights cost m slots l s t v ws noted opened = Why (Right k) opened noted slots ws t v
Goes (InHand k b) weights cost m slots l s t v ws noted opened = Why (InHand k b) opened noted slots ws t v
Goes Cut weights cost m slots l s t v ws noted opened = Why Cut opened noted slots ws t v
Goes Full weights cost m slots l s t v ws noted opened = Why Full opened noted slots ws t v

-- right is noted, in slot k, while the smallest total of a term that waits is l; or it is not noted
abbrev pub RanOut : Stop → ℕ → Term → List Weighed → Type 0
RanOut (InHand k b) l t es = (b ≡ l) × (k < length es) × (held t es ≡ some (weighed_at es k))
RanOut Cut l t es = held t es ≡ none
RanOut (Right k) l t es = ⊥
RanOut Over l t es = ⊥
RanOut Full l t es = ⊥

-- of `run_out`, where no more terms may be opened
pub record RunsOut (ws : List ℕ) (noted : ℕ) (right : List ℕ) (l : ℕ) (r : Stop) : Type 0 where
  pub exact : (t : Term) (es : List Weighed) → WeighSlots ws es → length es ≡ noted → Distinct (terms es) → IsRun right t → RanOut r l t es

-- of `open_layer`, at the layer of total l, whose terms are in the slots ks
pub record OpensLayer (weights : List ℕ) (cost : ℕ) (m : Limits) (slots : ℕ) (right ks : List ℕ) (l : ℕ) (before : Ended) (ws ws' : List ℕ) (r : Ended) : Type 0 where
  pub fits : r.noted ≤ slots
  pub few : r.opened ≤ m.nodes
  pub exact : (s t : Term) (v es : List Weighed) → IsRun right t → Heavy (weights_of weights)
      → Stands weights cost m s t v ws before.noted before.opened es → Awaits l (m.nodes - before.opened) ks es
      → Goes r.stop weights cost m slots (l + 1) s t v ws' r.noted r.opened

-- of `open_layers`, with left noted
pub record OpensLayers (weights : List ℕ) (cost : ℕ) (m : Limits) (slots : ℕ) (right ws ws' : List ℕ) (r : Ended) : Type 0 where
  pub exact : (s t : Term) → WeighSlots ws (start s ∷ []) → IsRun right t → Heavy (weights_of weights)
      → Ends r slots ws' t (weighed semiring (weights_of weights) cost (limits_of m) s t)
