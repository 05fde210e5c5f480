-- What the functions that answer WEIGH go by.
use Rattle.std.specs.Prelude.{ℕ, ◌<◌, ◌≡◌, List, ◌++◌, length, Option, Some, None}
use Rattle.terms.specs.Held.{IsRun}
use Rattle.search.specs.Law.{semiring}
use Rattle.text.specs.Bytes.{ascii, number}
use Rattle.text.specs.Answer.{field}
use Rattle.weigh.specs.Weigh.{Weighed, weights_of, weighed}
use Rattle.weigh.specs.Outcome.{outcome}
use Rattle.weigh.specs.Job.{WeighJob, WeighAccepted}
use Rattle.weigh.specs.Slots.{weighed_at, WeighSlots}
use Rattle.weigh.specs.Searched.{returning}

-- the runs of an accepted job's sides
pub record Sides (left right : List ℕ) (j : WeighJob) : Type 0 where
  pub known : WeighAccepted j
  pub left_run : IsRun left j.left
  pub right_run : IsRun right j.right

-- where a path is returned: what stands behind `answer=`, and the lines after that of `steps=`
abbrev pub path_verdict : Option ℕ → List ℕ
path_verdict None = ascii "proved"
path_verdict (Some l) = ascii "atmost"

abbrev pub totals_text : ℕ → Option ℕ → List ℕ
totals_text total None = field "total=" (number total)
totals_text total (Some l) = field "total=" (number total) ++ field "atleast=" (number l)

-- the terms that a job's search notes stand in ws, and the path that is returned leads to slot k
pub record Held (ws : List ℕ) (k : ℕ) (atleast : Option ℕ) (j : WeighJob) (es : List Weighed) : Type 0 where
  pub slots : WeighSlots ws es
  pub within : k < length es
  pub searched : es ≡ weighed semiring (weights_of j.weights) j.cost j.limits j.left j.right
  pub ends : (opened : ℕ) × (outcome j.right es ≡ returning atleast (weighed_at es k).trail opened (length es))
