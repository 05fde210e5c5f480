-- WEIGH's noted terms, with their origins and totals, in the slots of a workspace. A parent may stand in a later slot than the term that it leads to.
use Rattle.std.specs.Prelude.{ℕ, ◌<◌, ◌≡◌, true, List, [], ◌∷◌, ◌++◌, length, get_or}
use Rattle.terms.specs.Term.{zero}
use Rattle.search.specs.Line.{Line}
use Rattle.search.specs.Runs.{origin_of, value_of, Runs}
use Rattle.search.specs.Slots.{Marks}
use Rattle.search.specs.declared.slots.Step.{Step}
use Rattle.search.specs.declared.slots.Origin.{Origin}
use Rattle.search.specs.declared.slots.Origin.TheVariants.{Start, From}
use Rattle.weigh.specs.Weigh.{Weighed, terms, start}

-- the term noted in slot k
abbrev pub weighed_at : List Weighed → ℕ → Weighed
weighed_at es k = get_or es k (start zero)

-- the step leads to n from an opened term; an opened term is never changed again
pub record Leads (s : Step) (es : List Weighed) (n : Weighed) : Type 0 where
  pub within : s.parent < length es
  pub opened : (weighed_at es s.parent).opened ≡ true
  pub line : Line
  pub marks : Marks s (weighed_at es s.parent).term line
  pub result : n.term ≡ line.result
  pub trail : n.trail ≡ (weighed_at es s.parent).trail ++ (line ∷ [])

-- slot 0 alone has the start
abbrev pub Comes : Origin → List Weighed → ℕ → Weighed → Type 0
Comes Start es k n = (k ≡ 0) × (n.trail ≡ [])
Comes (From s) es k n = Leads s es n

-- the first slots have the noted terms, in noting order
pub record WeighSlots (ws : List ℕ) (es : List Weighed) : Type 0 where
  pub runs : Runs ws (terms es)
  pub origin : (k : ℕ) → k < length es → Comes (origin_of ws k) es k (weighed_at es k)
  pub total : (k : ℕ) → k < length es → value_of ws k ≡ (weighed_at es k).total
