-- What the functions that read a job, and accept or refuse it, promise.
use Rattle.std.specs.Prelude.{ℕ, ◌≤◌, ◌<◌, ◌≡◌, Bool, true, List, [], ◌∷◌, ◌++◌, length, leb, Result, Ok, Err}
use Rattle.terms.specs.Equation.{orient}
use Rattle.terms.specs.Term.{Term, size, order}
use Rattle.terms.specs.Letters.{letters}
use Rattle.terms.specs.Held.{IsRun}
use Rattle.search.specs.Line as line
use Rattle.search.specs.Searched.{limits_of}
use Rattle.search.specs.Runs.{Spells, HeldRuns}
use Rattle.search.specs.declared.bounded_search.Limits.{Limits}
use Rattle.text.specs.declared.refusal.Refusal.{Refusal}
use Rattle.text.specs.declared.job.accept.Read.{Read}
use Rattle.text.specs.declared.job.written.Written.{Written}
use Rattle.text.specs.Refusal.{number_of}
use Rattle.text.specs.TermText.{read_term}
use Rattle.text.specs.Answer.{Answer, refused, accepted, ◌>>=◌, require, or_refuse}
use Rattle.text.specs.Job.{Job, few, read_job}
use Rattle.text.specs.FindJob.{Layouts, layouts, read_terms, every, all_small, accept_each, read_find, jobs_of}
use Rattle.text.specs.RightLines.{rights_in}
use Rattle.text.specs.LayoutRead.{capped, sides_with}

-- the answer is these jobs: left has this run, and the right sides have theirs in slots
pub record Takes (answer : Answer (List Job)) (j : Read) (rights : List ℕ) : Type 0 where
  pub side : Term
  pub others : List Term
  pub limits : line.Limits
  pub accepted : answer ≡ accepted (jobs_of side others limits)
  pub run : IsRun j.left side
  pub runs : HeldRuns rights others
  pub count : length others ≡ j.rights
  pub some_rights : 0 < j.rights
  pub few_rights : j.rights ≤ 16
  pub is : limits_of j.limits ≡ limits

-- what was read, against the answer
abbrev pub Answers : Answer (List Job) → Result Read Refusal → (rights : List ℕ) → Type 0
Answers answer (Err e) rights = answer ≡ refused (number_of e)
Answers answer (Ok j) rights = Takes answer j rights

-- the jobs of a text that is well formed: refusals 2 to 6 and 10
abbrev pub jobs_in : Layouts → Answer (List Job)
jobs_in w = ◌>>=◌ (or_refuse 2 (read_term w.left)) λ s. ◌>>=◌ (or_refuse 2 (read_terms w.rights)) λ ts. accept_each s ts w.limits

-- of `few_variables`
pub record FewVariables (xs ys : List ℕ) (r : Bool) : Type 0 where
  pub exact : (s t : Term) → IsRun xs s → IsRun ys t → r ≡ few (letters s ++ letters t)

-- of `all_pass`: each right side passes the test of terms that the code makes of their runs
pub record AllPass (Tells : List ℕ → Bool → Type 0) (rights : List ℕ) (n : ℕ) (r : Bool) : Type 0 where
  pub exact : (p : Term → Bool) → ((xs : List ℕ) (t : Term) (b : Bool) → IsRun xs t → Tells xs b → b ≡ p t)
      → (ts : List Term) → HeldRuns rights ts → length ts ≡ n → r ≡ every p ts

-- the terms of the right sides: refusals 2 and 3
abbrev pub small_terms : List (List ℕ) → Answer (List Term)
small_terms values = ◌>>=◌ (or_refuse 2 (read_terms values)) λ ts. ◌>>=◌ (require 3 (all_small ts)) λ _. accepted ts

-- the right sides are refused, or have their runs in slots
abbrev pub RightsRead : Answer (List Term) → Result (Unit {0}) Refusal → (rights : List ℕ) → Type 0
RightsRead answer (Err e) rights = answer ≡ refused (number_of e)
RightsRead answer (Ok u) rights = (ts : List Term) × (answer ≡ accepted ts) × HeldRuns rights ts

-- of `read_rights`
pub record ReadsRights (w : Written) (rights rights' : List ℕ) (r : Result (Unit {0}) Refusal) : Type 0 where
  pub kept : length rights' ≡ length rights
  pub exact : RightsRead (small_terms (rights_in w.lines.now w.rights)) r rights'

-- of `orient`: xs is left as it is written, and slot 0 has the right side
pub record Orients (xs rights : List ℕ) (left : List ℕ) (rights' : List ℕ) : Type 0 where
  pub exact : (s t : Term) → IsRun xs s → HeldRuns rights (t ∷ []) → size s ≤ 31
      → IsRun left (orient order s t).left × HeldRuns rights' ((orient order s t).right ∷ [])

-- of `accept_sides`: xs is left as it is written, and slots have the right sides
pub record AcceptsSides (xs : List ℕ) (n : ℕ) (m : Limits) (rights : List ℕ) (r : Result Read Refusal) (rights' : List ℕ) : Type 0 where
  pub exact : (s : Term) (ts : List Term) (limits : line.Limits) → IsRun xs s → HeldRuns rights ts → length ts ≡ n → size s ≤ 31
      → all_small ts ≡ true → limits_of m ≡ capped limits → Answers (accept_each s ts limits) r rights'

-- of `read_sides`
pub record ReadsSides (w : Written) (r : Result Read Refusal) (rights' : List ℕ) : Type 0 where
  pub exact : (m : line.Limits) → limits_of w.limits ≡ capped m → Answers (jobs_in (sides_with w m)) r rights'

-- the jobs of a text of at most so many bytes, with at most so many right sides, or it is refused by a number
abbrev pub read_within : (bytes rights over : ℕ) → List ℕ → Answer (List Job)
read_within bytes rights over bs =
    ◌>>=◌ (require 1 (leb (length bs) bytes)) λ _.
    ◌>>=◌ (or_refuse 1 (layouts bs)) λ w.
    ◌>>=◌ (require over (leb (length w.rights) rights)) λ _.
    jobs_in w

-- of `read_find`
abbrev pub ReadsFind : List ℕ → Result Read Refusal → (rights : List ℕ) → Type 0
ReadsFind bs = Answers (read_find bs)

-- the answer is this job: left has this run, and the only right side has its run in slot 0
pub record TakesOne (answer : Answer Job) (j : Read) (rights : List ℕ) : Type 0 where
  pub job : Job
  pub accepted : answer ≡ accepted job
  pub left_run : IsRun j.left job.left
  pub right_run : Spells rights 0 job.right

-- of `read_job`
abbrev pub ReadsJob : List ℕ → Result Read Refusal → (rights : List ℕ) → Type 0
ReadsJob bs (Err e) rights = read_job bs ≡ refused (number_of e)
ReadsJob bs (Ok j) rights = TakesOne (read_job bs) j rights
