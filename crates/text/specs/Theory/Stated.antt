-- What holds of a text of two terms, whichever comes first, holds of every answer by that text to a job that states their equation.
use Rattle.std.specs.Prelude.{ℕ, ◌≡◌, List, length, leb}
use Rattle.terms.specs.Term.{Term, order}
use Rattle.terms.specs.Theory.Equation.{orient_either}
use Rattle.search.specs.Line.{Limits}
use Rattle.text.specs.Answer.{◌>>=◌, fitting}
use Rattle.text.specs.Job.{Job, oriented, read_job}
use Rattle.text.specs.JobText.{Passes}
use Rattle.text.specs.Theory.Accepted.{If_accepted, accepted_then, required_then}
use Rattle.text.specs.Theory.JobText.{job_exact}

module _ (P : Term → Term → List ℕ → Type 0) (text : Term → Term → List ℕ)
    (swap : (s t : Term) (a : List ℕ) → P s t a → P t s a) (holds : (s t : Term) → P s t (text s t)) where
  oriented_holds : (s t : Term) (m : Limits) {j : Job} → j ≡ oriented s t m → P s t (text j.left j.right)
  unfolding oriented
  oriented_holds s t m e = rw e (orient_either (λ x y. P s t (text x y)) order s t (holds s t) (swap t s (text t s) (holds t s)))

  -- the equation that the job states, and what holds of it
  abbrev Stated : List ℕ → List ℕ → Type 0
  Stated job a = (s : Term) × (t : Term) × (m : Limits) × Passes job s t m × P s t a

  pub stated : (job : List ℕ) (room : ℕ) → If_accepted (Stated job) (◌>>=◌ (read_job job) (λ j. fitting room (text j.left j.right)))
  unfolding fitting
  stated job room =
      accepted_then (Stated job) (read_job job) _ λ j read.
      let (s, t, m, p, e) = (job_exact job j).0 read in
      required_then (Stated job) 8 (leb (length (text j.left j.right)) room) _ λ fits.
      (s, t, m, p, oriented_holds s t m e)
