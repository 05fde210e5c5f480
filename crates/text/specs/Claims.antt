-- What is claimed of every text that FIND answers, block by block (demand 3), and of every call of an entry.
use Rattle.std.specs.Prelude.{ℕ, ◌-◌, ◌≤◌, ◌<◌, ◌≡◌, ◌↔◌, length, take, drop}
use Prim.Native.String.{String}
use Rattle.std.proofs.Math.Option.{some}
use mathlib.Core.List.{List, [], ◌∷◌, ◌++◌, map, flat_map}
use Rattle.terms.specs.Lists.{◌∈◌}
use Rattle.terms.specs.Compare.{lt}
use Rattle.terms.specs.Term.{Term, order}
use Rattle.words.specs.Words.{Word, words}
use Rattle.search.specs.Law.{semiring}
use Rattle.search.specs.Line.{Line}
use Rattle.search.specs.Search.{Outcome, proved, unproved, expanded, noted}
use Rattle.search.specs.Searched.{slots_of}
use Rattle.search.specs.Cut.{cut}
use Rattle.search.specs.Claims.{Provable, Returned, Claims}
use Rattle.text.specs.Bytes.{ascii, read_number}
use Rattle.text.specs.TermText.{read_term}
use Rattle.text.specs.Answer.{Answer, refused, accepted, field, printed, yes_no, values, parts}
use Rattle.text.specs.Job.{Job}
use Rattle.text.specs.FindJob.{Layouts, layouts, alone_texts, read_find}
use Rattle.text.specs.StepText.{read_steps}
use Rattle.text.specs.Find.{outcome_text, searched, block, find}
use Rattle.text.specs.Entry.{before_search}

-- the text has one line with this key, and the number in it is n
abbrev pub Reports : List ℕ → String → ℕ → Type 0
Reports t key n = map read_number (values key t) ≡ some n ∷ []

-- the text has one line with this key, and the term in it is s
abbrev pub Names : List ℕ → String → Term → Type 0
Names t key s = map read_term (values key t) ≡ some s ∷ []

-- what stands behind `answer=`
abbrev pub verdict : Outcome → List ℕ
verdict (proved xs e n) = ascii "proved"
verdict (unproved e n) = ascii "none"

-- what stands behind `cut=`, in a line that a none alone has
abbrev pub cuts : Job → Outcome → List (List ℕ)
cuts j (proved xs e n) = []
cuts j (unproved e n) = yes_no (cut semiring j.limits j.left) ∷ []

-- of a text that answers the job of one equation
pub record Answered (read : Job) (slots : ℕ) (t : List ℕ) : Type 0 where
  -- the left side is the smaller
  pub oriented : order read.left read.right ≡ lt
  -- the answer is that of the search
  pub outcome : Outcome
  pub searched : outcome ≡ searched read
  pub printed : t ≡ outcome_text semiring read outcome
  -- the terms noted have slots
  pub enough : noted outcome ≤ slots
  -- the number of lines that a proved answer reports is that of its path
  pub steps : (xs : List Line) (e n : ℕ) → outcome ≡ proved xs e n → Reports t "steps=" (length xs)
  -- every answer, proved or none, reports the number opened
  pub opened : Reports t "expanded=" (expanded outcome)
  -- the text says whether it is proved, and its sides
  pub verdict : values "answer=" t ≡ verdict outcome ∷ []
  pub sides : Names t "left=" read.left × Names t "right=" read.right
  -- the path of a proved answer is the one that the `step=` lines of the text tell, in order
  pub path : (xs : List Line) (e n : ℕ) → outcome ≡ proved xs e n → read_steps semiring t ≡ map some xs
  -- `cut` is yes exactly when a noted term at a distance below steps was left unopened
  pub cut : values "cut=" t ≡ cuts read outcome
  -- where the text does not print `cut=yes`, a path is returned exactly when a direct match or a path of searchable lines within the
  -- step limit exists
  pub decided : (ascii "yes" ∈ values "cut=" t → ⊥) → Returned outcome ↔ Provable semiring read.limits read.left read.right
  -- path, ends, fewest lines, number opened, when a path is returned, and when more nodes change a none
  pub claims : Claims semiring (List Word) words read.limits read.left read.right

-- a block is the answer to its job alone, or says that this job would note more terms than there are slots
pub data Block (slots : ℕ) (j : Job) (t : List ℕ) : Type 0 where
  answers : Answered j slots t → Block slots j t
  refuses : slots < noted (searched j) → t ≡ printed (refused 7) → Block slots j t

-- the jobs and their blocks are those of the texts with one right line each, in the order of these lines
pub record EachAlone (job : List ℕ) (jobs : List Job) (slots room : ℕ) : Type 0 where
  -- the job's lines as they are written
  pub written : Layouts
  pub laid : layouts job ≡ some written
  pub limits : List ℕ
  pub lines : job ≡ field "left=" written.left ++ (flat_map (field "right=") written.rights ++ limits)
  -- to each right line its job
  pub read : map read_find (alone_texts written limits) ≡ map (λ j. accepted (j ∷ [])) jobs
  -- and the job's block is what FIND prints to that text, with the same slots and room
  pub blocks : map (λ text. printed (find text slots room)) (alone_texts written limits) ≡ map (block slots) jobs

-- of every text that FIND answers
pub record FindAnswered (job : List ℕ) (slots room : ℕ) (t : List ℕ) : Type 0 where
  pub jobs : List Job
  pub accepted : read_find job ≡ accepted jobs
  -- the blocks in job order
  pub blocks : t ≡ flat_map (block slots) jobs
  -- a reader finds them: the text is cut before each line that begins with `answer=`
  pub parts : parts "answer=" t ≡ map (block slots) jobs
  pub each : (j : Job) → j ∈ jobs → Block slots j (block slots j)
  -- each right line has the block that it has alone
  pub alone : EachAlone job jobs slots room
  -- one right side has an answer, never a block that says 7
  pub single : (j : Job) → jobs ≡ j ∷ [] → Answered j slots t
  pub fits : length t ≤ room

-- of a call that gives an answer, or a refusal by one of the numbers ns, returns r and leaves out' where out was
pub record CallClaims (ns : List ℕ) (answer : Answer (List ℕ)) (out : List ℕ) (r : ℕ) (out' : List ℕ) : Type 0 where
  -- a number below 100 is that of a refusal, and a refusal's is below 100
  pub refusal : (r < 100) ↔ (answer ≡ refused r)
  -- a refusal has one of these numbers and leaves the output untouched
  pub numbered : r < 100 → r ∈ ns
  pub untouched : r < 100 → out' ≡ out
  -- an answer not refused is the first r - 100 bytes of the output, and the rest keeps its bytes
  pub text : 100 ≤ r → answer ≡ accepted (take (r - 100) out')
  pub kept : 100 ≤ r → drop (r - 100) out' ≡ drop (r - 100) out

-- the numbers by which a job with one right side is refused before anything is answered
abbrev pub job_numbers : List ℕ
job_numbers = 1 ∷ 2 ∷ 3 ∷ 4 ∷ 5 ∷ 6 ∷ []

-- those of WORDS, RENAME and SAME
abbrev pub list_numbers : List ℕ
list_numbers = job_numbers ++ (8 ∷ [])

-- those of FIND
abbrev pub find_numbers : List ℕ
find_numbers = before_search ++ (7 ∷ 8 ∷ [])

-- of a call of FIND, whatever the buffers held before: an answer not refused is a text of which demand 3 holds
pub record FindClaims (job out work : List ℕ) (r : ℕ) (out' : List ℕ) : Type 0 where
  pub call : CallClaims find_numbers (find job (slots_of (length work)) (length out)) out r out'
  pub answered : 100 ≤ r → FindAnswered job (slots_of (length work)) (length out) (take (r - 100) out')
