-- What stands at a place of a list is a member of it.
use Rattle.std.specs.Prelude.{ℕ, suc, ◌<◌, refl, List, [], ◌∷◌, length, get_or}
use Rattle.std.proofs.Common.{arith}
use Rattle.terms.specs.Lists.{◌∈◌, here, there}

pub getD_in : {A : Type 0} (d : A) (xs : List A) (i : ℕ) → i < length xs → get_or xs i d ∈ xs
getD_in d [] i h = absurd (omega arith)
getD_in d (x ∷ xs) ℕ.zero h = here refl
getD_in d (x ∷ xs) (suc i) h = there (getD_in d xs i (omega arith))
