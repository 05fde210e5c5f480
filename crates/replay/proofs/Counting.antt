-- The counts that a tally begins with.
use Rattle.std.proofs.Common.{◌≡◌, ℕ, suc, List, [], get_or, refl}
use Rattle.std.proofs.Math.ListN.{replicate}

abbrev zeros : (n : ℕ) → List ℕ
zeros n = replicate n 0

-- in a row of zeros, and behind it
zeros_at : (n column : ℕ) → get_or (zeros n) column 0 ≡ 0
zeros_at ℕ.zero column = refl
zeros_at (suc n) ℕ.zero = refl
zeros_at (suc n) (suc column) = zeros_at n column

-- in rows of them, and behind these
pub rows_at : (m n row column : ℕ) → get_or (get_or (replicate m (zeros n)) row []) column 0 ≡ 0
rows_at ℕ.zero n row column = refl
rows_at (suc m) n ℕ.zero column = zeros_at n column
rows_at (suc m) n (suc row) column = rows_at m n row column
