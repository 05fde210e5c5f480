-- What the functions that count a term's words promise: of a term of any size, as far as a number reaches.
use Rattle.std.specs.Prelude.{ℕ, ◌+◌, ◌-◌, ◌^◌, ◌≡◌, ◌≤◌, min, List, length}
use Rattle.terms.specs.Term.{Term, size}
use Rattle.terms.specs.Held.{IsRun, Holds}
use Rattle.words.specs.Words.{words}
use Rattle.words.specs.Counts.{count}
use Rattle.words.specs.declared.count.Counted.{Counted}

-- the largest number
abbrev pub HIGHEST : ℕ
HIGHEST = 2 ^ 64 - 1

-- the count of a term, or the largest number if it is more
abbrev pub counted : Term → ℕ
counted t = min (count t) HIGHEST

-- of `count_at`: where the term at a position ends, and how many words it has
pub record CountsAt (xs : List ℕ) (at : ℕ) (r : Counted) : Type 0 where
  pub forward : at ≤ r.end
  pub exact : (t : Term) → Holds xs at t → (r.end ≡ at + size t) × (r.count ≡ counted t)

-- of `count_of`
abbrev pub CountsWords : List ℕ → ℕ → Type 0
CountsWords xs r = (t : Term) → IsRun xs t → r ≡ counted t

-- asked where lists are made: the terms of two runs, of at most 31 nodes, have as many words
abbrev pub AsMany : (xs ys : List ℕ) → Type 0
AsMany xs ys = (s t : Term) → IsRun xs s → IsRun ys t → size s ≤ 31 → size t ≤ 31 → length (words s) ≡ length (words t)
