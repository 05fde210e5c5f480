-- What the functions promise that take the lines of an opened term, each with its total.
use Rattle.std.specs.Prelude.{ℕ, ◌+◌, ◌≤◌, ◌<◌, ◌≡◌, true, List, length, Option, Some, None, MatchOption}
use Rattle.terms.specs.Lists.{◌∈◌, Distinct}
use Rattle.terms.specs.Term.{Term}
use Rattle.terms.specs.Held.{IsRun}
use Rattle.search.specs.Law.{semiring}
use Rattle.search.specs.Coded.{name_of}
use Rattle.search.specs.Line as line
use Rattle.search.specs.Line.{Line, lines, allowed}
use Rattle.search.specs.Searched.{limits_of}
use Rattle.search.specs.Slots.{Marks}
use Rattle.search.specs.declared.search.Law.{Law}
use Rattle.search.specs.declared.bounded_search.Limits.{Limits}
use Rattle.search.specs.declared.slots.Step.{Step}
use Rattle.weigh.specs.Weigh.{Weights, weights_of, Weighed, terms, led, note, note_lines}
use Rattle.weigh.specs.Slots.{weighed_at, WeighSlots}

-- x, in slot i, is opened, and no opened term is heavier
pub record Opened (es : List Weighed) (i : ℕ) (x : Weighed) : Type 0 where
  pub within : i < length es
  pub is : weighed_at es i ≡ x
  pub opened : x.opened ≡ true
  pub heaviest : (a : Weighed) → a ∈ es → a.opened ≡ true → a.total ≤ x.total
  pub distinct : Distinct (terms es)

-- there are slots for as many
abbrev pub HasRoom : Option ℕ → ℕ → Type 0
HasRoom (Some c) slots = c ≤ slots
HasRoom None slots = Unit {0}

-- the terms noted afterwards stand in the slots, or there are more of them than slots
abbrev pub Became : Option ℕ → ℕ → List ℕ → List Weighed → Type 0
Became (Some c) slots ws es = WeighSlots ws es × (length es ≡ c)
Became None slots ws es = slots < length es

-- of `total_of`: it is over cost, or it is this
abbrev pub Totals : List ℕ → ℕ → Law → ℕ → Option ℕ → Type 0
Totals weights cost law total o =
    MatchOption o (cost < total + weights_of weights (name_of law)) (λ n. (n ≡ total + weights_of weights (name_of law)) × (n ≤ cost))

-- of `note_total`: a line leads from the opened term of a step to the run xs
pub record NotesTotal (ws : List ℕ) (count slots : ℕ) (xs : List ℕ) (s : Step) (total : ℕ) (r : Option ℕ) (ws' : List ℕ) : Type 0 where
  pub fits : HasRoom r slots
  pub size : length ws' ≡ length ws
  pub exact : (es : List Weighed) (x : Weighed) (w : Weights) (y : Line) → WeighSlots ws es → length es ≡ count → Opened es s.parent x → Marks s x.term y
      → IsRun xs y.result → total ≡ x.total + w y.law → Became r slots ws' (note (led w x y) es)

-- of `take_line` and `lines_at`: the lines `new` on the opened term in slot `from`, whose run is xs and whose total is `total`
pub record TakesLines (weights : List ℕ) (cost : ℕ) (ws : List ℕ) (count slots : ℕ) (xs : List ℕ) (room deep from total : ℕ) (new : Term → List Line) (r : Option ℕ) (ws' : List ℕ) : Type 0 where
  pub fits : HasRoom r slots
  pub size : length ws' ≡ length ws
  pub exact : (es : List Weighed) (x : Weighed) (m : line.Limits) → WeighSlots ws es → length es ≡ count → Opened es from x → IsRun xs x.term → x.total ≡ total
      → m.size ≡ room → m.depth ≡ deep → Became r slots ws' (note_lines (weights_of weights) cost x (allowed m (new x.term)) es)

-- of `open`: all lines on the opened term in slot i
pub record Opens (weights : List ℕ) (cost : ℕ) (m : Limits) (ws : List ℕ) (count slots i total : ℕ) (r : Option ℕ) (ws' : List ℕ) : Type 0 where
  pub fits : HasRoom r slots
  pub size : length ws' ≡ length ws
  pub exact : (es : List Weighed) (x : Weighed) → WeighSlots ws es → length es ≡ count → Opened es i x → x.total ≡ total → m.size ≤ 31
      → Became r slots ws' (note_lines (weights_of weights) cost x (allowed (limits_of m) (lines semiring x.term)) es)
