-- What is claimed of every text that WEIGH answers, and what a call of WEIGH returns and leaves in each buffer that it is lent.
use Rattle.std.specs.Prelude.{ℕ, ◌-◌, ◌≤◌, ◌<◌, ◌≡◌, ◌↔◌, List, [], ◌∷◌, ◌++◌, map, length, take, Result}
use Rattle.std.proofs.Math.Option.{some}
use Rattle.terms.specs.Lists.{◌∈◌}
use Rattle.words.specs.Words.{Word, words}
use Rattle.search.specs.Law.{semiring}
use Rattle.search.specs.Line.{Line}
use Rattle.search.specs.Searched.{slots_of}
use Rattle.weigh.specs.Weigh.{weight, weights_of}
use Rattle.weigh.specs.Outcome.{Outcome, proved, atmost, unproved, Returns, expanded, noted}
use Rattle.weigh.specs.Claims.{WeighClaims}
use Rattle.weigh.specs.Hand.{HandClaims}
use Rattle.text.specs.Bytes.{ascii, number}
use Rattle.text.specs.Answer.{accepted, values, yes_no}
use Rattle.text.specs.StepText.{read_steps}
use Rattle.text.specs.declared.refusal.Refusal.{Refusal}
use Rattle.text.specs.Refusal.{number_returned}
use Rattle.text.specs.Entry.{Call, Gives}
use Rattle.text.specs.Claims.{Reports, Names, CallClaims}
use Rattle.weigh.specs.Job.{WeighAccepted, WeighJob, read_weigh}
use Rattle.weigh.specs.Text.{weigh_text, job_weighed, weigh_entry}

-- what stands behind `answer=`
abbrev pub weigh_verdict : Outcome → List ℕ
weigh_verdict (proved xs e n) = ascii "proved"
weigh_verdict (atmost xs l e n) = ascii "atmost"
weigh_verdict (unproved e n c) = ascii "none"

-- what stands behind `atleast=`
abbrev pub weigh_atleasts : Outcome → List (List ℕ)
weigh_atleasts (proved xs e n) = []
weigh_atleasts (atmost xs l e n) = number l ∷ []
weigh_atleasts (unproved e n c) = []

-- what stands behind `cut=`
abbrev pub weigh_cuts : Outcome → List (List ℕ)
weigh_cuts (proved xs e n) = []
weigh_cuts (atmost xs l e n) = []
weigh_cuts (unproved e n c) = yes_no c ∷ []

-- of every text that WEIGH answers
pub record WeighAnswered (job : List ℕ) (slots room : ℕ) (t : List ℕ) : Type 0 where
  pub read : WeighJob
  pub accepted : read_weigh job ≡ accepted read
  -- the left side is the smaller, and sides, limits, cost and weights keep their bounds
  pub known : WeighAccepted read
  -- the answer is that of the search
  pub outcome : Outcome
  pub searched : outcome ≡ job_weighed read
  pub printed : t ≡ weigh_text semiring read outcome
  -- the terms noted have slots, and the text has room
  pub enough : noted outcome ≤ slots
  pub fits : length t ≤ room
  -- the text says whether it is proved, an atmost or a none, its sides and the number opened
  pub verdict : values "answer=" t ≡ weigh_verdict outcome ∷ []
  pub sides : Names t "left=" read.left × Names t "right=" read.right
  pub opened : Reports t "expanded=" (expanded outcome)
  -- the number of lines and the total of a proved answer or an atmost are those of its path, which is the one that the `step=` lines of the text
  -- tell, in order
  pub steps : (xs : List Line) → Returns outcome xs → Reports t "steps=" (length xs)
  pub total : (xs : List Line) → Returns outcome xs → Reports t "total=" (weight (weights_of read.weights) xs)
  pub path : (xs : List Line) → Returns outcome xs → read_steps semiring t ≡ map some xs
  -- `atleast=` stands in an atmost alone, and says the smallest total among noted, unopened terms
  pub atleast : values "atleast=" t ≡ weigh_atleasts outcome
  -- `cut=` stands in a none, and says whether a noted term was left unopened
  pub cut : values "cut=" t ≡ weigh_cuts outcome
  -- path, ends, least weight, number opened, when a path is returned, and cut
  pub claims : WeighClaims semiring (List Word) words (weights_of read.weights) read.cost read.limits read.left read.right
  -- and where nodes run out: when a path in hand is returned, how near it is to the lightest, and what more nodes can change
  pub hand : HandClaims semiring (weights_of read.weights) read.cost read.limits read.left read.right

-- the numbers of the refusals that WEIGH gives before any search
abbrev pub before_search : List ℕ
before_search = 1 ∷ 2 ∷ 3 ∷ 4 ∷ 5 ∷ 16 ∷ 6 ∷ []

-- all numbers of its refusals
abbrev pub weigh_numbers : List ℕ
weigh_numbers = before_search ++ (7 ∷ 8 ∷ [])

-- a call of WEIGH; these refusals leave the workspace too
pub record WeighCall (job out work : List ℕ) (r : ℕ) (out' work' : List ℕ) : Type 0 where
  pub call : Call (weigh_entry job (slots_of (length work)) (length out)) out r out'
  pub workspace : r ∈ before_search → work' ≡ work

-- likewise beneath the entry
pub record WeighGives (job out work : List ℕ) (r : Result ℕ Refusal) (out' work' : List ℕ) : Type 0 where
  pub gives : Gives (weigh_entry job (slots_of (length work)) (length out)) out r out'
  pub workspace : number_returned r ∈ before_search → work' ≡ work

-- of a call of WEIGH, whatever the buffers held before
pub record WeighCallClaims (job out work : List ℕ) (r : ℕ) (out' work' : List ℕ) : Type 0 where
  -- its number is one of these or at least 100; a refusal leaves the output, and one before the search the workspace too
  pub call : CallClaims weigh_numbers (weigh_entry job (slots_of (length work)) (length out)) out r out'
  pub workspace : r ∈ before_search → work' ≡ work
  -- an answer not refused is a text of which the claims hold
  pub answered : 100 ≤ r → WeighAnswered job (slots_of (length work)) (length out) (take (r - 100) out')
  -- 7 is returned exactly if the job's search notes more terms than there are slots
  pub full : (r ≡ 7) ↔ ((j : WeighJob) × (read_weigh job ≡ accepted j) × (slots_of (length work) < noted (job_weighed j)))
  -- 8 exactly if these have slots, and the answer's text has no room
  pub short : (r ≡ 8) ↔ ((j : WeighJob) × (read_weigh job ≡ accepted j) × (noted (job_weighed j) ≤ slots_of (length work))
      × (length out < length (weigh_text semiring j (job_weighed j))))
  -- that text is then the answer in any output that has room for it
  pub wide : r ≡ 8
      → (t : List ℕ) × (length out < length t) × ((room : ℕ) → length t ≤ room → weigh_entry job (slots_of (length work)) room ≡ accepted t)
