-- What the functions that read a step line promise.
use Rattle.std.specs.Prelude.{ℕ, ◌+◌, ◌<◌, ◌≡◌, List, length, Some, None, MatchOption}
use Rattle.std.specs.Prelude as answered
use Rattle.std.proofs.Math.Option.{Option, none, some, bind}
use Rattle.search.specs.Law.{semiring}
use Rattle.search.specs.Coded.{name_of, direction_of}
use Rattle.search.specs.declared.search.Law.{Law}
use Rattle.search.specs.declared.search.Direction.{Direction}
use Rattle.text.specs.Bytes.{pieces}
use Rattle.text.specs.Layout.{keyed}
use Rattle.text.specs.StepText.{place, read_law, read_direction}
use Rattle.checking.specs.declared.line.Step.{Step}
use Rattle.checking.specs.Layout.{StepLayout, step_layout, step_lines}

-- of `law_in`
abbrev pub LawIn : List ℕ → answered.Option Law → Type 0
LawIn bs (Some w) = read_law semiring bs ≡ some (name_of w)
LawIn bs None = read_law semiring bs ≡ none

-- of `direction_in`
abbrev pub DirectionIn : List ℕ → answered.Option Direction → Type 0
DirectionIn bs (Some d) = read_direction bs ≡ some (direction_of d)
DirectionIn bs None = read_direction bs ≡ none

-- a step line as the code has it is this one
pub record Stands (x : Step) (y : StepLayout) : Type 0 where
  pub law : y.law ≡ name_of x.law
  pub direction : y.direction ≡ direction_of x.direction
  pub place : x.place.now ≡ place y.place
  pub result : y.result ≡ x.result.now

-- of `step_in`: a text is the value of this step line
pub record StepAt (value : List ℕ) (x : Step) : Type 0 where
  pub shorter : length x.place.now + length x.result.now < length value
  pub layout : StepLayout
  pub stands : Stands x layout
  pub read : step_layout semiring value ≡ some layout

-- the step lines that a text is
abbrev pub lines_from : List ℕ → Option (List StepLayout)
lines_from s = step_lines semiring (pieces 10 s)

-- the step line that begins a text
abbrev pub line_at : List ℕ → Option StepLayout
line_at s = bind (keyed "step=" s) (λ c. step_layout semiring c.front)

-- of `step_line`: it is this one, and what follows it
pub record LineAt (s : List ℕ) (x : Step) (rest : List ℕ) : Type 0 where
  pub shorter : length x.place.now + length x.result.now + length rest < length s
  pub value : List ℕ
  pub keyed : keyed "step=" s ≡ some (record { front = value; rest = rest })
  pub layout : StepLayout
  pub read : step_layout semiring value ≡ some layout
  pub stands : Stands x layout

-- of `next`: the line that begins a text and what follows it, or there is none and the text stays
abbrev pub NextLine : List ℕ → answered.Option Step → List ℕ → Type 0
NextLine s line rest = MatchOption line ((line_at s ≡ none) × (rest ≡ s)) (λ x. LineAt s x rest)
