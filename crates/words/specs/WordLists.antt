-- Whole lists of words: those of a term, and those renamed, as the functions that make them promise.
use Rattle.std.specs.Prelude.{◌≡◌, ℕ, Bool, ◌*◌, ◌/◌, ◌<◌, ◌≤◌, List, ◌++◌, length, take}
use Rattle.std.proofs.Math.Dec.{compare_is_eq}
use Rattle.terms.specs.Compare.{order_numbers}
use Rattle.terms.specs.Differ.{differ_at}
use Rattle.terms.specs.Equation.{Equation, orient}
use Rattle.terms.specs.Term.{Term, size}
use Rattle.terms.specs.Letters.{letters, rising, variables}
use Rattle.terms.specs.Run.{ZERO}
use Rattle.terms.specs.Held.{IsRun}
use Rattle.terms.specs.Promises.{ordering_of}
use Rattle.words.specs.Words.{Word, words, order_words, order_lists}
use Rattle.words.specs.Spelled.{SLOT, spelled, words_at, words_in}
use Rattle.words.specs.Rename.{rename_words, canonical_words}
use Rattle.words.specs.Decoded.{renaming}
use Rattle.words.specs.Multiply.{MOST, LONGEST}
use Rattle.words.specs.Sort.{Lettered}
use Rattle.words.specs.Candidate.{Sides}
use Rattle.words.specs.Counts.{longest}
use Rattle.words.specs.declared.normal_form.Parting.{Parting}

-- the words in all the slots that a list has
abbrev pub slot_words : List ℕ → List Word
slot_words ws = words_in ws (length ws / SLOT)

-- as few and as short as those of a term of 31 nodes, of letters below 4096
pub record Bounded (us : List Word) : Type 0 where
  pub few : length us ≤ MOST
  pub short : longest us ≤ LONGEST
  pub small : Lettered us

-- the words of the term of a run
pub record WordsOf (xs out : List ℕ) (r : ℕ) (out' : List ℕ) : Type 0 where
  pub within : r ≤ length out
  pub exact : (t : Term) → IsRun xs t → size t ≤ 31 → SLOT * MOST ≤ length out → take r out' ≡ spelled (words t)

-- the words in the slots ws renamed, by way of the slots ss
pub record RenamesWords (f : ℕ → ℕ) (ws ss out : List ℕ) (r : ℕ) (out' : List ℕ) : Type 0 where
  pub within : r ≤ length out
  pub exact : Bounded (slot_words ws) → ((n : ℕ) → n < ZERO → f n < ZERO) → SLOT * MOST ≤ length ss → SLOT * MOST ≤ length out
      → take r out' ≡ spelled (rename_words f (slot_words ws))

-- room to rename the words in two lists of slots
pub record WordRoom (us vs : List ℕ) (room : ℕ) : Type 0 where
  pub first : Bounded (slot_words us)
  pub second : Bounded (slot_words vs)
  pub sides : SLOT * MOST ≤ room

-- the equation that renaming number c makes of the words in two lists of slots
abbrev pub word_candidate : (names us vs : List ℕ) → ℕ → Equation (List ℕ)
word_candidate names us vs c =
    orient order_numbers (spelled (rename_words (renaming names c) (slot_words us))) (spelled (rename_words (renaming names c) (slot_words vs)))

-- the canonical equation of the words of two terms of at most 31 nodes with at most six v letters
pub record CanonicalWords (xs ys : List ℕ) (room : ℕ) (e : Sides) : Type 0 where
  pub exact : (s t : Term) → IsRun xs s → IsRun ys t → size s ≤ 31 → size t ≤ 31
      → length (rising (variables (letters s ++ letters t))) ≤ 6 → SLOT * MOST ≤ room
      → (e.left ≡ spelled (canonical_words (words s) (words t)).left)
      × (e.right ≡ spelled (canonical_words (words s) (words t)).right)

-- of `compare_lists`: the order of any two runs by their numbers, and of runs that spell lists of words the lists' order and the place where
-- they part
pub record ComparesLists (xs ys : List ℕ) (r : Parting) : Type 0 where
  pub numbers : ordering_of r.order ≡ order_numbers xs ys
  pub order : (us vs : List Word) → xs ≡ spelled us → ys ≡ spelled vs → ordering_of r.order ≡ order_lists us vs
  pub place : (us vs : List Word) → xs ≡ spelled us → ys ≡ spelled vs → r.place ≡ differ_at order_words us vs

-- of `list_words`: the words of the term of a run, in the slots that the first r numbers of a list name
pub record ListsWords (xs : List ℕ) (r : ℕ) (ws' order' : List ℕ) : Type 0 where
  pub within : r ≤ length order'
  pub exact : (t : Term) → IsRun xs t → size t ≤ 31 → words_at ws' (take r order') ≡ words t

-- of `same_words`: whether two terms of at most 31 nodes have the same words
abbrev pub SameWords : (xs ys : List ℕ) → Bool → Type 0
SameWords xs ys r =
    (s t : Term) → IsRun xs s → IsRun ys t → size s ≤ 31 → size t ≤ 31 → r ≡ compare_is_eq (order_lists (words s) (words t))
