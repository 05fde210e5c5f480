-- What the function that finds the position of a written place promises.
use Rattle.std.specs.Prelude.{ℕ, ◌≡◌, cond, eqb, List, length, Some, None}
use Prim.Native.Char.{code}
use Rattle.std.specs.Prelude as answered
use Rattle.std.proofs.Math.Option.{Option, none, some}
use Rattle.terms.specs.Term.{Term}
use Rattle.terms.specs.Held.{IsRun}
use Rattle.search.specs.Line.{Side, l, r}
use Rattle.search.specs.Position.{position}
use Rattle.search.specs.Used.{Inside}
use Rattle.text.specs.StepText.{place}

-- of `side_in`: the right one if a byte is no side
abbrev pub named_side : ℕ → Side
named_side b = cond (eqb b (code "l")) l r

-- the position, where there is one
abbrev pub position_in : answered.Option ℕ → Option ℕ
position_in (Some k) = some k
position_in None = none

-- of `position_of`
pub record Locates (bs xs : List ℕ) (r : answered.Option ℕ) : Type 0 where
  pub within : Inside (length xs) r
  pub exact : (t : Term) → IsRun xs t → (p : List Side) → bs ≡ place p → position_in r ≡ position p t
