-- What the functions that read a job of WEIGH promise.
use Rattle.std.specs.Prelude.{◌≡◌, ℕ, ◌≤◌, ◌<◌, min, List, map, length, Result, Ok, Err, MatchOption}
use Rattle.std.specs.Prelude as answered
use Prim.Native.Char.{code}
use Rattle.std.proofs.Math.Option.{Option, none, some, bind}
use Rattle.terms.specs.Term.{Term, size, order}
use Rattle.terms.specs.Equation.{orient}
use Rattle.terms.specs.Held.{IsRun}
use Rattle.search.specs.Searched.{limits_of}
use Rattle.text.specs.Bytes.{pieces}
use Rattle.text.specs.TermText.{read_term}
use Rattle.text.specs.Answer.{Answer, accepted, refused, ◌>>=◌, or_refuse}
use Rattle.text.specs.Refusal.{number_of}
use Rattle.text.specs.LayoutRead.{capped}
use Rattle.text.specs.declared.refusal.Refusal.{Refusal}
use Rattle.weigh.specs.Layout.{WeighLayout, read_numbers, so_many, weigh_layout}
use Rattle.weigh.specs.Job.{WeighJob, weigh_accept, read_weigh}
use Rattle.weigh.specs.declared.job.Written.{Written}
use Rattle.weigh.specs.declared.job.Read.{Read}

-- ---- the lines

-- numbers above 4,096, which no weight may be, are taken for 4,097
abbrev pub capped_each : List ℕ → List ℕ
capped_each = map (λ n. min n 4097)

-- these numbers were read, and w is what they are taken for
pub record WeightsRead (read : Option (List ℕ)) (w : List ℕ) : Type 0 where
  pub numbers : List ℕ
  pub is : w ≡ capped_each numbers
  pub there : read ≡ some numbers

-- of `weights` and `weights_line`
abbrev pub ReadsWeights : Option (List ℕ) → answered.Option (List ℕ) → Type 0
ReadsWeights read o = MatchOption o (read ≡ none) (λ w. WeightsRead read w)

-- so many numbers in a text, parted by spaces
unfoldable pub numbers_in : ℕ → List ℕ → Option (List ℕ)
unfolding bind pieces read_numbers so_many
numbers_in k text = bind (read_numbers (pieces (code " ") text)) (so_many k)

-- the job is written so, its numbers taken for what they are
pub record Shows (w : Written) (l : WeighLayout) : Type 0 where
  pub left : w.left.now ≡ l.left
  pub right : w.right.now ≡ l.right
  pub cost : w.cost ≡ min l.cost 4097
  pub limits : limits_of w.limits ≡ capped l.limits
  pub weights : w.weights ≡ capped_each l.weights

-- the seven lines that are a text
pub record LaidOut (s : List ℕ) (w : Written) : Type 0 where
  pub left_within : length w.left.now < length s
  pub right_within : length w.right.now < length s
  pub layout : WeighLayout
  pub shown : Shows w layout
  pub lines : weigh_layout 10 s ≡ some layout

-- of `layout_of`
abbrev pub LaysOut : List ℕ → answered.Option Written → Type 0
LaysOut s o = MatchOption o (weigh_layout 10 s ≡ none) (λ w. LaidOut s w)

-- ---- the job

-- the answer is this job
pub record Takes (answer : Answer WeighJob) (j : Read) : Type 0 where
  pub job : WeighJob
  pub accepted : answer ≡ accepted job
  pub left_run : IsRun j.left job.left
  pub right_run : IsRun j.right job.right
  pub cost : j.cost ≡ job.cost
  pub limits : limits_of j.limits ≡ job.limits
  pub weights : j.weights ≡ job.weights

-- what was read, against the answer
abbrev pub Answers : Answer WeighJob → Result Read Refusal → Type 0
Answers answer (Err e) = answer ≡ refused (number_of e)
Answers answer (Ok j) = Takes answer j

-- of `oriented`
pub record Orients (xs ys : List ℕ) (r : List ℕ × List ℕ) : Type 0 where
  pub exact : (s t : Term) → IsRun xs s → IsRun ys t → IsRun r.0 (orient order s t).left × IsRun r.1 (orient order s t).right

-- of `accept`
pub record Accepts (xs ys : List ℕ) (w : Written) (r : Result Read Refusal) : Type 0 where
  pub exact : (s t : Term) (l : WeighLayout) → IsRun xs s → IsRun ys t → size s ≤ 31 → size t ≤ 31 → Shows w l → Answers (weigh_accept s t l) r

-- the job of a text that is well formed: refusals 2 to 5, 16 and 6
abbrev pub job_in : WeighLayout → Answer WeighJob
job_in l = ◌>>=◌ (or_refuse 2 (read_term l.left)) λ s. ◌>>=◌ (or_refuse 2 (read_term l.right)) λ t. weigh_accept s t l

-- of `read_sides`
pub record ReadsSides (w : Written) (r : Result Read Refusal) : Type 0 where
  pub exact : (l : WeighLayout) → Shows w l → Answers (job_in l) r

-- of `read_weigh`
abbrev pub ReadsWeigh : List ℕ → Result Read Refusal → Type 0
ReadsWeigh bs = Answers (read_weigh bs)
