-- What the search promises: how it ended, and where it found a path the noted terms in the workspace.
use Rattle.std.specs.Prelude.{ℕ, ◌≤◌, ◌<◌, ◌≡◌, true, false, List, length, Option, Some, None}
use Rattle.terms.specs.Term.{Term, size}
use Rattle.terms.specs.Held.{IsRun}
use Rattle.search.specs.Law.{semiring}
use Rattle.search.specs.Line.{Line}
use Rattle.search.specs.Searched.{limits_of, slots_of}
use Rattle.search.specs.declared.bounded_search.Limits.{Limits}
use Rattle.weigh.specs.Weigh.{weights_of, Weighed, weighed}
use Rattle.weigh.specs.Outcome.{Outcome, proved, atmost, unproved, outcome}
use Rattle.weigh.specs.Claims.{Heavy}
use Rattle.weigh.specs.Slots.{weighed_at, WeighSlots}
use Rattle.weigh.specs.declared.layers.Stop.{Stop}
use Rattle.weigh.specs.declared.layers.Stop.TheVariants.{Right, InHand, Cut, Over, Full}
use Rattle.weigh.specs.declared.layers.Ended.{Ended}

-- the outcome that returns a path: proved, or, where the smallest total of a term that waits is given, in hand
abbrev pub returning : Option ℕ → List Line → (opened noted : ℕ) → Outcome
returning None xs opened noted = proved xs opened noted
returning (Some l) xs opened noted = atmost xs l opened noted

-- a path is returned: the terms noted at the end, es, stand in ws, and right in slot k
abbrev pub PathAt : Option ℕ → ℕ → (opened noted slots : ℕ) → List ℕ → Term → List Weighed → Type 0
PathAt atleast k opened noted slots ws right es =
    WeighSlots ws es × (length es ≡ noted) × (noted ≤ slots) × (k < noted) × (outcome right es ≡ returning atleast (weighed_at es k).trail opened noted)

-- the search ended so, with es noted at the end
abbrev pub Why : Stop → (opened noted slots : ℕ) → List ℕ → Term → List Weighed → Type 0
Why (Right k) opened noted slots ws right es = PathAt None k opened noted slots ws right es
Why (InHand k l) opened noted slots ws right es = PathAt (Some l) k opened noted slots ws right es
Why Cut opened noted slots ws right es = (length es ≡ noted) × (noted ≤ slots) × (outcome right es ≡ unproved opened noted true)
Why Over opened noted slots ws right es = (length es ≡ noted) × (noted ≤ slots) × (outcome right es ≡ unproved opened noted false)
Why Full opened noted slots ws right es = slots < length es

abbrev pub Ends : Ended → ℕ → List ℕ → Term → List Weighed → Type 0
Ends r slots ws right es = Why r.stop r.opened r.noted slots ws right es

-- of `search_weighed`
pub record Searches (weights : List ℕ) (cost : ℕ) (left right : List ℕ) (m : Limits) (ws ws' : List ℕ) (r : Ended) : Type 0 where
  pub exact : (s t : Term) → IsRun left s → IsRun right t → size s ≤ 31 → m.size ≤ 31 → m.nodes ≤ 4096 → Heavy (weights_of weights)
      → Ends r (slots_of (length ws)) ws' t (weighed semiring (weights_of weights) cost (limits_of m) s t)
