-- The text of a job, and the jobs that pass 1 to 6, by the equations that they state.
use Rattle.std.specs.Prelude.{ℕ, ◌≡◌, List, ◌++◌}
use Rattle.terms.specs.Term.{Term}
use Rattle.search.specs.Line.{Limits}
use Rattle.text.specs.Bytes.{number}
use Rattle.text.specs.TermText.{write_term}
use Rattle.text.specs.Answer.{field}
use Rattle.text.specs.Job.{In_range, Fit}

-- the last four lines
unfoldable pub limits_text : Limits → List ℕ
unfolding field number
limits_text m =
    field "steps=" (number m.steps) ++ (field "size=" (number m.size) ++ (field "depth=" (number m.depth) ++ field "nodes=" (number m.nodes)))

-- sides as they are written, and the limits
unfoldable pub job_lines : (left right : List ℕ) → Limits → List ℕ
unfolding field limits_text
job_lines left right m = field "left=" left ++ (field "right=" right ++ limits_text m)

unfoldable pub job_text : Term → Term → Limits → List ℕ
unfolding job_lines write_term
job_text s t m = job_lines (write_term s) (write_term t) m

-- the job states the equation of s and t with these limits, and passes 1 to 6
pub record Passes (job : List ℕ) (s t : Term) (m : Limits) : Type 0 where
  pub text : job ≡ job_text s t m
  pub sides : Fit s t
  pub limits : In_range m
  pub differ : s ≡ t → ⊥
