-- A path as it stands in the workspace, from parent to parent, and its copy, in which each term stands in the slot after its parent's.
use Rattle.std.specs.Prelude.{ℕ, ◌+◌, ◌≤◌, ◌<◌, ◌≡◌, List, [], ◌∷◌, ◌++◌, length, take, drop, Option, Some, None}
use Rattle.search.specs.Line.{Line}
use Rattle.search.specs.Runs.{origin_of}
use Rattle.search.specs.Search.{Noted}
use Rattle.search.specs.Slots.{noted_at, Marks, Slots}
use Rattle.search.specs.declared.slots.Step.{Step}
use Rattle.search.specs.declared.slots.Origin.TheVariants.{From}
use Rattle.text.specs.Walk.{Walk}
use Rattle.weigh.specs.Weigh.{Weighed}
use Rattle.weigh.specs.Slots.{weighed_at, WeighSlots}

-- slot k has the term to which the line x leads from the term in slot j
pub record Linked (ws : List ℕ) (es : List Weighed) (j k : ℕ) (x : Line) : Type 0 where
  pub within : k < length es
  pub step : Step
  pub origin : origin_of ws k ≡ From step
  pub parent : step.parent ≡ j
  pub marks : Marks step (weighed_at es j).term x
  pub result : (weighed_at es k).term ≡ x.result
  pub trail : (weighed_at es k).trail ≡ (weighed_at es j).trail ++ (x ∷ [])

-- the slots ks have the terms to which the lines xs lead, one after the other, from the term in slot j on
pub data Way (ws : List ℕ) (es : List Weighed) : ℕ → List ℕ → List Line → Type 0 where
  none : {j : ℕ} → Way ws es j [] []
  more : {j k : ℕ} {ks : List ℕ} {x : Line} {xs : List Line} → Linked ws es j k x → Way ws es k ks xs → Way ws es j (k ∷ ks) (x ∷ xs)

-- what the functions promise

-- the way begins with left's term, which no line leads to
abbrev pub WayFrom : List ℕ → List Weighed → ℕ → List ℕ → Option ℕ → Type 0
WayFrom ws es last path (Some from) = Way ws es 0 (drop from path) (weighed_at es last).trail × ((weighed_at es 0).trail ≡ [])
WayFrom ws es last path None = ⊥

-- of `way_to`: from where on the slots in `path` are those of the way to slot `last`
pub record WaysTo (ws : List ℕ) (last : ℕ) (path : List ℕ) (r : Option ℕ) : Type 0 where
  pub within : (from : ℕ) → r ≡ Some from → from ≤ length path
  pub exact : (es : List Weighed) → WeighSlots ws es → last < length es → length (weighed_at es last).trail ≤ length path → WayFrom ws es last path r

-- the terms noted in out begin with left, and the last of them has the trail of the term in slot `last` of the workspace
pub record Copied (es : List Weighed) (last : ℕ) (out : List ℕ) (n : ℕ) : Type 0 where
  pub noted : List Noted
  pub slots : Slots out noted
  pub count : length noted ≡ n + 1
  pub start : (noted_at noted 0).term ≡ (weighed_at es 0).term
  pub trail : (noted_at noted n).trail ≡ (weighed_at es last).trail

-- of `copy_way`
pub record CopiesWay (ws way out : List ℕ) : Type 0 where
  pub exact : (es : List Weighed) (last : ℕ) → WeighSlots ws es → last < length es → Way ws es 0 way (weighed_at es last).trail
      → (weighed_at es 0).trail ≡ [] → Copied es last out (length way)

-- of `copy_path`: the lines of the path lead from left to the slots at the front of `path`
pub record CopiesPath (ws : List ℕ) (last : ℕ) (path out : List ℕ) (r : Option ℕ) : Type 0 where
  pub within : (n : ℕ) → r ≡ Some n → n ≤ length path
  pub exact : (es : List Weighed) → WeighSlots ws es → last < length es → length (weighed_at es last).trail ≤ length path
      → ((weighed_at es 0).trail ≡ []) × ((n : ℕ) × (r ≡ Some n) × Walk out (take n path) (weighed_at es 0).term (weighed_at es last).trail)
