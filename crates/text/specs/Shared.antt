-- What is claimed of RENAME as an identifier: which equations get the same `left` and `right`, which the same `wleft` and `wright`, and what
-- it makes of its own lines.
use Rattle.std.specs.Prelude.{ℕ, ◌+◌, ◌-◌, ◌≤◌, ◌<◌, ◌≡◌, ◌↔◌, List, [], ◌∷◌, ◌++◌, length, take}
use Prim.Native.String.{String}
use Rattle.terms.specs.Lists.{◌∈◌}
use Rattle.terms.specs.Term.{Term}
use Rattle.words.specs.Words.{words}
use Rattle.words.specs.Shared.{Alike, AlikeWords}
use Rattle.search.specs.Line.{Limits}
use Rattle.text.specs.Bytes.{ascii}
use Rattle.text.specs.Answer.{field, values}
use Rattle.text.specs.Job.{In_range}
use Rattle.text.specs.JobText.{job_lines, Passes}
use Rattle.text.specs.Rename.{rename_entry}
use Rattle.text.specs.Entry.{Call}
use Rattle.text.specs.Claims.{job_numbers}

-- a call of RENAME on a job that states the equation of s and t and passes 1 to 6, whatever the output held; a is the answer
pub record Named (s t : Term) (a : List ℕ) : Type 0 where
  pub job : List ℕ
  pub limits : Limits
  pub passes : Passes job s t limits
  pub out : List ℕ
  pub r : ℕ
  pub out' : List ℕ
  pub call : Call (rename_entry job (length out)) out r out'
  pub answered : 100 ≤ r
  pub text : a ≡ take (r - 100) out'

-- the answer is four lines, with these values
pub record FourLines (a l r u v : List ℕ) : Type 0 where
  pub whole : a ≡ (field "left=" l ++ field "right=" r) ++ (field "wleft=" u ++ field "wright=" v)
  pub left : values "left=" a ≡ l ∷ []
  pub right : values "right=" a ≡ r ∷ []
  pub wleft : values "wleft=" a ≡ u ∷ []
  pub wright : values "wright=" a ≡ v ∷ []

-- every call of RENAME on the job answers by a where there is room for a, and is refused by 8 where there is none
pub record Answers (job a : List ℕ) : Type 0 where
  pub fits : (out : List ℕ) (r : ℕ) (out' : List ℕ) → Call (rename_entry job (length out)) out r out' → length a ≤ length out
      → (r ≡ 100 + length a) × (take (r - 100) out' ≡ a)
  pub short : (out : List ℕ) (r : ℕ) (out' : List ℕ) → Call (rename_entry job (length out)) out r out' → length out < length a → r ≡ 8

-- every job that passes 1 to 6 has one answer, of four lines
abbrev pub HasName : Type 0
HasName = (job : List ℕ) (s t : Term) (m : Limits) → Passes job s t m
    → (a : List ℕ) × Answers job a × ((l : List ℕ) × (r : List ℕ) × (u : List ℕ) × (v : List ℕ) × FourLines a l r u v)

-- and a call that is not refused by 1 to 6 is one on such a job
abbrev pub EveryCall : Type 0
EveryCall = (job out : List ℕ) (r : ℕ) (out' : List ℕ) → Call (rename_entry job (length out)) out r out' → (r ∈ job_numbers → ⊥)
    → (s : Term) × (t : Term) × (m : Limits) × Passes job s t m × (100 ≤ r → Named s t (take (r - 100) out'))

-- two answers have the same values under two keys
abbrev pub Share : (key key' : String) (a b : List ℕ) → Type 0
Share key key' a b = (values key a ≡ values key b) × (values key' a ≡ values key' b)

-- equations get the same `left` and `right` exactly when a one-to-one renaming of v letters, with or without exchanging sides, turns one
-- into the other
abbrev pub SharedName : Type 0
SharedName = (s t u v : Term) (a b : List ℕ) → Named s t a → Named u v b → Share "left=" "right=" a b ↔ Alike s t u v

-- and then all four lines are the same
abbrev pub SharedLines : Type 0
SharedLines = (s t u v : Term) (a b : List ℕ) → Named s t a → Named u v b → Alike s t u v → a ≡ b

-- where the words of the sides differ, another equation gets the same `wleft` and `wright` exactly when such a renaming turns the lists
-- of words of the one into those of the other, with or without exchanging them
abbrev pub SharedWords : Type 0
SharedWords = (s t u v : Term) (a b : List ℕ) → Named s t a → Named u v b → (words s ≡ words t → ⊥)
    → Share "wleft=" "wright=" a b ↔ AlikeWords (words s) (words t) (words u) (words v)

-- `-` says that the words agree, and no more: all such equations have it
abbrev pub Dashes : Type 0
Dashes = (s t : Term) (a : List ℕ) → Named s t a
    → ((values "wleft=" a ≡ ascii "-" ∷ []) ↔ (words s ≡ words t)) × ((values "wright=" a ≡ ascii "-" ∷ []) ↔ (words s ≡ words t))

-- renaming a renamed equation gives it back: the job of its two lines, with any limits that pass 5, passes 1 to 6 and has the same answer
abbrev pub GivesBack : Type 0
GivesBack = (s t : Term) (a l r : List ℕ) (m : Limits) → Named s t a → values "left=" a ≡ l ∷ [] → values "right=" a ≡ r ∷ [] → In_range m
    → ((u : Term) × (v : Term) × Passes (job_lines l r m) u v m) × Answers (job_lines l r m) a
