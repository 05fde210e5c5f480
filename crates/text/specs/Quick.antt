-- What is claimed of SAME's answers, from their bytes: they say whether the sides have the same words, in the line that WORDS prints for that
-- job.
use Rattle.std.specs.Prelude.{ℕ, ◌-◌, ◌≤◌, ◌≡◌, ◌↔◌, List, [], ◌∷◌, ◌++◌, length, take}
use Rattle.terms.specs.Lists.{◌∈◌}
use Rattle.terms.specs.Term.{Term}
use Rattle.words.specs.Words.{words}
use Rattle.search.specs.Line.{Limits}
use Rattle.text.specs.Bytes.{ascii}
use Rattle.text.specs.Answer.{field, values}
use Rattle.text.specs.JobText.{Passes}
use Rattle.text.specs.Words.{words_entry}
use Rattle.text.specs.Same.{same_entry}
use Rattle.text.specs.Entry.{Call}
use Rattle.text.specs.Claims.{job_numbers}

-- the answer a is one line: yes exactly where the sides have the same words, no exactly where they have not
pub record Says (s t : Term) (a : List ℕ) : Type 0 where
  pub yes : (a ≡ field "same=" (ascii "yes")) ↔ (words s ≡ words t)
  pub no : (a ≡ field "same=" (ascii "no")) ↔ (words s ≡ words t → ⊥)

-- every call of SAME that answers, whatever the output held
abbrev pub SaysSame : Type 0
SaysSame = (job out : List ℕ) (r : ℕ) (out' : List ℕ) → Call (same_entry job (length out)) out r out' → 100 ≤ r
    → (s : Term) × (t : Term) × (m : Limits) × Passes job s t m × Says s t (take (r - 100) out')

-- the answer a is the first line of the answer b, and the only one there with its key
pub record FirstLine (a b : List ℕ) : Type 0 where
  pub said : List ℕ
  pub rest : List ℕ
  pub line : a ≡ field "same=" said
  pub first : b ≡ a ++ rest
  pub only : values "same=" b ≡ said ∷ []

-- a call of SAME has returned r and left out' where out was, and a call of WORDS on the same job q and other' where other was
pub record AsWords (out : List ℕ) (r : ℕ) (out' other : List ℕ) (q : ℕ) (other' : List ℕ) : Type 0 where
  -- each number from 1 to 6 refuses both or neither
  pub refused : (n : ℕ) → n ∈ job_numbers → (r ≡ n) ↔ (q ≡ n)
  -- where WORDS has found room SAME finds it in as much
  pub room : 100 ≤ q → length other ≤ length out → 100 ≤ r
  -- where both have answered SAME has printed WORDS' line
  pub line : 100 ≤ r → 100 ≤ q → FirstLine (take (r - 100) out') (take (q - 100) other')

-- every two such calls
abbrev pub LineOfWords : Type 0
LineOfWords = (job out : List ℕ) (r : ℕ) (out' other : List ℕ) (q : ℕ) (other' : List ℕ)
    → Call (same_entry job (length out)) out r out' → Call (words_entry job (length other)) other q other' → AsWords out r out' other q other'
