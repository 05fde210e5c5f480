-- What sorting words by merging, and writing them as a run, promise.
use Rattle.std.specs.Prelude.{◌≡◌, ℕ, ◌<◌, ◌≤◌, Bool, true, false, List, [], ◌∷◌, ◌++◌, length, take, drop}
use Rattle.terms.specs.Compare.{Ordering}
use Rattle.terms.specs.Lists.{◌∈◌}
use Rattle.terms.specs.Run.{ZERO}
use Rattle.terms.specs.Sort.{kept, before, Sorted}
use Rattle.words.specs.Words.{Word, order_words, normal}
use Rattle.words.specs.Spelled.{spelled, words_at}

-- of two lists to be merged the first gives the next item: unless it has none, or the second's comes before it
unfoldable pub first_next : {A : Type 0} → (A → A → Ordering) → List A → List A → Bool
first_next o [] ys = false
first_next o (x ∷ xs) [] = true
first_next o (x ∷ xs) (y ∷ ys) = before kept (o x y)

-- of the slots in a and in b, whether the next by its word is a's
abbrev pub from_first : List ℕ → List ℕ → List ℕ → Bool
from_first ws a b = first_next order_words (words_at ws a) (words_at ws b)

-- the words in the slots a and b, where each list is sorted, are those in the slots c, in order
abbrev pub Merges : List ℕ → List ℕ → List ℕ → List ℕ → Type 0
Merges ws a b c =
    Sorted kept order_words (words_at ws a) → Sorted kept order_words (words_at ws b)
    → words_at ws c ≡ normal kept (words_at ws a ++ words_at ws b)

-- the run xs fills the front of a list up to r, and the rest is kept
pub record Front (xs out : List ℕ) (r : ℕ) (out' : List ℕ) : Type 0 where
  pub size : r ≡ length xs
  pub numbers : take r out' ≡ xs
  pub rest : drop r out' ≡ drop r out

-- each letter is below 4096
abbrev pub Lettered : List Word → Type 0
Lettered ws = (w : Word) → w ∈ ws → (n : ℕ) → n ∈ w → n < ZERO

pub record Spells (ws : List Word) (out : List ℕ) (r : ℕ) (out' : List ℕ) : Type 0 where
  pub within : r ≤ length out
  pub exact : Lettered ws → length (spelled ws) ≤ length out → Front (spelled ws) out r out'
