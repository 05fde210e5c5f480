-- What is claimed of WORDS' answers, from their bytes: one that says no tells in its last line where the two lists part.
use Rattle.std.specs.Prelude.{ℕ, ◌-◌, ◌≤◌, ◌≡◌, ◌↔◌, true, false, List, [], ◌∷◌, ◌++◌, map, length, take}
use Prim.Native.Char.{code}
use Rattle.std.proofs.Math.Dec.{compare_is_eq}
use Rattle.terms.specs.Compare.{lexicographic, order_numbers}
use Rattle.terms.specs.Differ.{differ_at, DifferAt}
use Rattle.terms.specs.Equation.{orient}
use Rattle.terms.specs.Term.{Term}
use Rattle.words.specs.Words.{Word, order_words, order_lists, words}
use Rattle.search.specs.Line.{Limits}
use Rattle.text.specs.Bytes.{ascii, number, pieces}
use Rattle.text.specs.Answer.{field, values}
use Rattle.text.specs.JobText.{Passes}
use Rattle.text.specs.Words.{word, words_entry}
use Rattle.text.specs.Entry.{Call}

-- the texts of the words that a value lists: `0` lists none, else they stand between `;`
unfoldable pub listed : List ℕ → List (List ℕ)
unfolding lexicographic ascii pieces
listed v = elim (compare_is_eq (order_numbers v (ascii "0"))) [ true ↦ [] | false ↦ pieces (code ";") v ]

-- the answer a is three lines with these values, each the only one with its key, and then the bytes `last`
pub record Lines (said l r last a : List ℕ) : Type 0 where
  pub whole : a ≡ (field "same=" said ++ (field "left=" l ++ field "right=" r)) ++ last
  pub same : values "same=" a ≡ said ∷ []
  pub left : values "left=" a ≡ l ∷ []
  pub right : values "right=" a ≡ r ∷ []

-- it says yes, with the same list twice and no place
pub record SaysYes (a : List ℕ) : Type 0 where
  pub list : List ℕ
  pub lines : Lines (ascii "yes") list list [] a
  pub differ : values "differ=" a ≡ []

-- it says no, and in one line more, the last, k: before k the lists agree word for word, at k they differ or one has ended
pub record SaysNo (a : List ℕ) (k : ℕ) : Type 0 where
  pub left : List ℕ
  pub right : List ℕ
  pub lines : Lines (ascii "no") left right (field "differ=" (number k)) a
  pub differ : values "differ=" a ≡ number k ∷ []
  pub place : DifferAt (listed left) (listed right) k

-- the text has one `left=` line, which lists the words us, and one `right=` line, which lists the words vs
abbrev pub Lists : (us vs : List Word) → List ℕ → Type 0
Lists us vs a = (map listed (values "left=" a) ≡ map word us ∷ []) × (map listed (values "right=" a) ≡ map word vs ∷ [])

-- what the answer a tells of the words us and vs of the two sides
pub record Told (us vs : List Word) (a : List ℕ) : Type 0 where
  -- its lists are these two, the smaller first
  pub lists : Lists (orient order_lists us vs).left (orient order_lists us vs).right a
  -- it says yes exactly where they are the same, and no exactly where they are not
  pub yes : SaysYes a ↔ (us ≡ vs)
  pub no : ((k : ℕ) × SaysNo a k) ↔ (us ≡ vs → ⊥)
  -- and then its place is the one where they part
  pub place : (k : ℕ) → SaysNo a k → (k ≡ differ_at order_words us vs) × DifferAt us vs k

-- every call of WORDS that answers, whatever the output held
abbrev pub Tells : Type 0
Tells = (job out : List ℕ) (r : ℕ) (out' : List ℕ) → Call (words_entry job (length out)) out r out' → 100 ≤ r
    → (s : Term) × (t : Term) × (m : Limits) × Passes job s t m × Told (words s) (words t) (take (r - 100) out')

-- a list that is a beginning of the other differs from it at its end: k is the number of its words
abbrev pub PartsAtEnd : Type 0
PartsAtEnd = (a : List ℕ) (k : ℕ) (n : SaysNo a k) (more : List (List ℕ))
    → (listed n.right ≡ listed n.left ++ more → k ≡ length (listed n.left)) × (listed n.left ≡ listed n.right ++ more → k ≡ length (listed n.right))
