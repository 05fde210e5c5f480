-- What is claimed of every call of CHECK.
use Rattle.std.specs.Prelude.{ℕ, ◌≤◌, ◌≡◌, ◌↔◌, List, [], ◌∷◌, ◌++◌, length, drop}
use Rattle.terms.specs.Lists.{◌∈◌}
use Rattle.words.specs.Words as word
use Rattle.search.specs.Law.{semiring}
use Rattle.text.specs.Bytes.{ascii}
use Rattle.text.specs.Answer.{values, parts}
use Rattle.text.specs.Entry.{Call}
use Rattle.text.specs.Claims.{CallClaims}
use Rattle.checking.specs.Check.{Derivation, good, check, Derives, Chains, NoLine, NoChain, three_kinds}

-- the numbers of the refusals that CHECK gives before its lines are judged
abbrev pub read_numbers : List ℕ
read_numbers = 1 ∷ 2 ∷ 3 ∷ 4 ∷ []

-- all of them, in the order in which they are looked at
abbrev pub check_numbers : List ℕ
check_numbers = read_numbers ++ (11 ∷ 12 ∷ 8 ∷ [])

-- a call of CHECK: its number r, and the output before and after it
abbrev pub CheckCall : (text out : List ℕ) (r : ℕ) (out' : List ℕ) → Type 0
CheckCall text out r out' = Call (check text (length out)) out r out'

-- the call answers `answer=good`: 12 bytes at the front of the output, and the rest keeps its bytes
abbrev pub Good : (out : List ℕ) (r : ℕ) (out' : List ℕ) → Type 0
Good out r out' = (r ≡ 112) × (out' ≡ good ++ drop 12 out)

-- of a call of CHECK, whatever the output held before
pub record CheckClaims (text out : List ℕ) (r : ℕ) (out' : List ℕ) : Type 0 where
  pub call : CallClaims check_numbers (check text (length out)) out r out'
  pub answer : 100 ≤ r → Good out r out'
  -- it is given exactly if the text is a nonempty chain in the form that FIND prints, with small terms and few v letters, and has room
  pub exact : (100 ≤ r) ↔ ((d : Derivation) × Derives semiring text d × Chains semiring d × (12 ≤ length out))
  -- past 1 to 4, with any room: 11 exactly if there is no line, 12 exactly if the lines are no such chain
  pub none : (r ≡ 11) ↔ NoLine semiring text
  pub broken : (r ≡ 12) ↔ NoChain semiring text
  -- good paths have ends with the same words
  pub words : 100 ≤ r → (d : Derivation) → Derives semiring text d → word.words d.left ≡ word.words d.right

-- of a text that FIND answers: the three kinds of line from every block that says proved are good, in every call of CHECK with room for that
abbrev pub FoundGood : List ℕ → Type 0
FoundGood t = (b : List ℕ) → b ∈ parts "answer=" t → values "answer=" b ≡ ascii "proved" ∷ []
    → (out : List ℕ) → 12 ≤ length out → (r : ℕ) (out' : List ℕ) → CheckCall (three_kinds b) out r out' → Good out r out'
