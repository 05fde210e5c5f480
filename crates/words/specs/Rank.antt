-- A list of words set against a run without being sorted: how many of its words come before the run's next word.
use Rattle.std.specs.Prelude.{◌≡◌, ℕ, zero, suc, ◌+◌, ◌/◌, ◌<◌, ◌≤◌, max, Bool, true, List, [], ◌∷◌, map, length, take}
use mathlib.Core.List.{foldr}
use Rattle.terms.specs.Compare.{Ordering, lt, eq, gt, order_numbers}
use Rattle.terms.specs.Sort.{kept}
use Rattle.words.specs.Words.{Word, order_words, normal}
use Rattle.words.specs.Spelled.{SLOT, spelled, word_at}
use Rattle.words.specs.RenameRun.{rename_run}
use Rattle.words.specs.WordLists.{slot_words}
use Rattle.words.specs.declared.candidate.rank.Rank.{Rank}

-- the first word that a run spells
unfoldable pub first_word : List ℕ → Word
first_word [] = []
first_word (zero ∷ xs) = []
first_word (suc n ∷ xs) = n ∷ first_word xs

-- 1 for a word that comes before another, and for one that does not come after it
abbrev pub if_less : Ordering → ℕ
if_less lt = 1
if_less eq = 0
if_less gt = 0

abbrev pub if_upto : Ordering → ℕ
if_upto lt = 1
if_upto eq = 1
if_upto gt = 0

-- how many words compare so with w
abbrev pub tally : (Ordering → ℕ) → Word → List Word → ℕ
tally g w = foldr (λ x n. g (order_words x w) + n) 0

-- a word is counted that compares so
pub record Notes (k : Rank) (o : Ordering) (r : Rank) : Type 0 where
  pub less : r.less ≡ k.less + if_less o
  pub upto : r.upto ≡ k.upto + if_upto o

-- the words before w, and those up to it
pub record Ranks (w : Word) (us : List Word) (r : Rank) : Type 0 where
  pub less : r.less ≡ tally if_less w us
  pub upto : r.upto ≡ tally if_upto w us

-- the words in the slots from i up to r begin with the letters x and y
pub record Paired (ws : List ℕ) (x y i r : ℕ) : Type 0 where
  pub within : r ≤ max i (length ws / SLOT)
  pub same : (j : ℕ) → i ≤ j → j < r → take 2 (word_at ws j) ≡ x ∷ y ∷ []

-- what F makes of the words in the slots from i up to r comes after w
pub record Passes (F : Word → Word) (ws : List ℕ) (w : Word) (i r : ℕ) : Type 0 where
  pub within : r ≤ max i (length ws / SLOT)
  pub after : (j : ℕ) → i ≤ j → j < r → order_words (F (word_at ws j)) w ≡ gt

-- the words in the slots ws renamed and sorted
abbrev pub sorted_renamed : (ℕ → ℕ) → List ℕ → List Word
sorted_renamed f ws = normal kept (map (rename_run f) (slot_words ws))

-- where the answer is yes, the run comes before the words in the slots ws renamed
abbrev pub Above : (ℕ → ℕ) → (ws run : List ℕ) → Bool → Type 0
Above f ws run r = r ≡ true → order_numbers run (spelled (sorted_renamed f ws)) ≡ lt

-- where the answer is yes, candidate c is not the first, and the run comes before both its sides
pub record Exceeds (f : ℕ → ℕ) (us vs : List ℕ) (c : ℕ) (run : List ℕ) (r : Bool) : Type 0 where
  pub later : r ≡ true → 0 < c
  pub first : Above f us run r
  pub second : Above f vs run r
