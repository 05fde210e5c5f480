-- The permutations by number, and the least of numbered candidates, as a loop over the numbers visits them.
use Rattle.std.specs.Prelude.{ℕ, zero, suc, ◌*◌, ◌/◌, ◌%◌, List, [], ◌∷◌, ◌++◌, length, take, drop}
use Rattle.terms.specs.Compare.{Ordering}
use Rattle.terms.specs.Equation.{Equation}
use Rattle.words.specs.Rename.{renamed, lesser}

-- n put in at place p
unfoldable pub place_in : (p n : ℕ) → List ℕ → List ℕ
place_in p n ms = take p ms ++ (n ∷ drop p ms)

-- permutation number c of the k numbers from i on
unfoldable pub decoded : (k i c : ℕ) → List ℕ
unfolding place_in
decoded zero i c = []
decoded (suc k) i c = place_in (c % suc k) i (decoded k (suc i) (c / suc k))

-- renaming number c
abbrev pub renaming : (names : List ℕ) (c : ℕ) → ℕ → ℕ
renaming names c = renamed names (decoded (length names) 0 c)

-- how many permutations k numbers have
unfoldable pub factorial : ℕ → ℕ
factorial zero = 1
factorial (suc k) = factorial k * suc k

-- the least of the candidates with the numbers 0 to c, the first of those that agree
unfoldable pub least_to : {A : Type 0} → (A → A → Ordering) → (ℕ → Equation A) → ℕ → Equation A
unfolding lesser
least_to o candidate zero = candidate zero
least_to o candidate (suc c) = lesser o (least_to o candidate c) (candidate (suc c))

-- a function on both sides
abbrev pub both : {A B : Type 0} → (A → B) → Equation A → Equation B
both f e = record { left = f e.left; right = f e.right }
