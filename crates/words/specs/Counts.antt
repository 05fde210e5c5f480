-- How many words a term can have, and how long they can be.
use Rattle.std.specs.Prelude.{ℕ, ◌+◌, ◌*◌, max, List, [], ◌∷◌, length, slice_index}
use mathlib.Core.List.{foldr}
use Rattle.terms.specs.Term.{Term, letter, zero, one, add, mul}
use Rattle.words.specs.Words.{Word}

-- how many words a term has, by sums and products of counts
unfoldable pub count : Term → ℕ
count (letter n) = 1
count zero = 0
count one = 1
count (add s t) = count s + count t
count (mul s t) = count s * count t

-- how many atoms a term has
unfoldable pub atoms : Term → ℕ
atoms (letter n) = 1
atoms zero = 1
atoms one = 1
atoms (add s t) = atoms s + atoms t
atoms (mul s t) = atoms s + atoms t

-- the most words that so many atoms give, up to 16
unfoldable pub most : ℕ → ℕ
most n = slice_index (0 ∷ 1 ∷ 2 ∷ 3 ∷ 4 ∷ 6 ∷ 9 ∷ 12 ∷ 18 ∷ 27 ∷ 36 ∷ 54 ∷ 81 ∷ 108 ∷ 162 ∷ 243 ∷ 324 ∷ []) n

-- the letters of the longest word
abbrev pub longest : List Word → ℕ
longest = foldr (λ w n. max (length w) n) 0
