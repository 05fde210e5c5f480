-- What a call of an entry returns and leaves in each buffer that it is lent, and what the program prints.
use Rattle.std.specs.Prelude.{ℕ, ◌+◌, ◌≡◌, List, [], ◌∷◌, ◌++◌, length, drop, Result, Ok, Err}
use Rattle.terms.specs.Lists.{◌∈◌}
use Rattle.std.specs.Borrow.{MutBor}
use Rattle.terms.specs.Held.{IsRun}
use Rattle.search.specs.Searched.{slots_of}
use Rattle.text.specs.declared.answer.Sides.{Sides}
use Rattle.text.specs.declared.refusal.Refusal.{Refusal}
use Rattle.text.specs.Refusal.{number_of, number_returned}
use Rattle.text.specs.Answer.{Answer, refused, accepted, ◌>>=◌, printed}
use Rattle.text.specs.Job.{Job, Accepted, read_job}
use Rattle.text.specs.Find.{find}

-- a refusal returns its number; a call that answers returns 100 plus the answer's length
abbrev pub returned : Answer (List ℕ) → ℕ
returned (refused n) = n
returned (accepted t) = 100 + length t

-- a refusal leaves the output untouched; an answer fills the front, and the rest keeps its bytes
abbrev pub output_after : List ℕ → Answer (List ℕ) → List ℕ
output_after out (refused n) = out
output_after out (accepted t) = t ++ drop (length t) out

-- a call that gives an answer: its number r, and the output before and after it
pub record Call (answer : Answer (List ℕ)) (out : List ℕ) (r : ℕ) (out' : List ℕ) : Type 0 where
  pub number : r ≡ returned answer
  pub output : out' ≡ output_after out answer

-- likewise of a function beneath an entry: its result r is the answer's length, or the refusal
abbrev pub Gives : Answer (List ℕ) → (out : List ℕ) → Result ℕ Refusal → (out' : List ℕ) → Type 0
Gives answer out (Ok n) out' = (t : List ℕ) × (answer ≡ accepted t) × (n ≡ length t) × (out' ≡ t ++ drop (length t) out)
Gives answer out (Err e) out' = (answer ≡ refused (number_of e)) × (out' ≡ out)

-- the numbers of the refusals that FIND gives before any search, in the order in which they are looked at
abbrev pub before_search : List ℕ
before_search = 1 ∷ 9 ∷ 2 ∷ 3 ∷ 4 ∷ 5 ∷ 6 ∷ 10 ∷ []

-- a call of FIND; 40 numbers to a slot, at most 65,535 whole slots used (`slots_of`); these refusals leave the workspace too
pub record FindCall (job out work : List ℕ) (r : ℕ) (out' work' : List ℕ) : Type 0 where
  pub call : Call (find job (slots_of (length work)) (length out)) out r out'
  pub workspace : r ∈ before_search → work' ≡ work

-- likewise beneath the entry
pub record FindGives (job out work : List ℕ) (r : Result ℕ Refusal) (out' work' : List ℕ) : Type 0 where
  pub gives : Gives (find job (slots_of (length work)) (length out)) out r out'
  pub workspace : number_returned r ∈ before_search → work' ≡ work

-- of `answer_job`: what the function that was passed in gives for the sides of an accepted job is given for the job's text
pub record AnswersJob (Post : Sides → MutBor (List ℕ) → Result ℕ Refusal → MutBor (List ℕ) → Type 0) (job out : List ℕ) (r : Result ℕ Refusal) (out' : List ℕ) : Type 0 where
  pub exact : (answer : Job → Answer (List ℕ))
      → ((j : Job) (sides : Sides) (o o' : MutBor (List ℕ)) (q : Result ℕ Refusal) → Accepted j → IsRun sides.left.now j.left → IsRun sides.right.now j.right
      → length o.now ≡ length out → Post sides o q o' → Gives (answer j) o.now q o'.now)
      → Gives (◌>>=◌ (read_job job) answer) out r out'

-- FIND on standard input, printed, with 400 slots and 32,768 output bytes
unfoldable pub program : (input : List ℕ) → List ℕ
unfolding find printed
program input = printed (find input 400 32768)
