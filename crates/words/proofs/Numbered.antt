-- Slots numbered one after another.
use Rattle.std.proofs.Common.{◌≡◌, ℕ, zero, suc, ◌+◌, ◌<◌, List, [], ◌∷◌, ◌++◌, length, take, set, refl, ap, add-zero, zero-add, add-one, arith, take-suc-set}
use Rattle.words.specs.Rename.{count_from}

count_from_last : (k i : ℕ) → count_from (suc k) i ≡ count_from k i ++ ((i + k) ∷ [])
unfolding count_from
count_from_last zero i = rw add-zero
count_from_last (suc k) i = let e : suc i + k ≡ i + suc k = omega arith in ap (i ∷◌) (rw e at (count_from_last k (suc i)))

pub number_start : (order : List ℕ) → take 0 order ≡ count_from 0 0
unfolding count_from
number_start order = refl

pub number_next : (order : List ℕ) (i : ℕ) → i < length order → take i order ≡ count_from i 0 → take (i + 1) (set order i i) ≡ count_from (i + 1) 0
number_next order i h e = rw (add-one, take-suc-set order i i h, count_from_last, zero-add, e)
