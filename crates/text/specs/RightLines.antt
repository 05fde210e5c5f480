-- The right lines that begin a text.
use Rattle.std.specs.Prelude.{ℕ, List, ◌≡◌, length}
use Rattle.text.specs.FindJob.{repeated}

-- the values of the first n
abbrev pub rights_in : List ℕ → ℕ → List (List ℕ)
rights_in s n = (repeated "right=" n s).values

-- of `right_lines`: n begin a text, and what follows them
pub record RightsIn (s : List ℕ) (n : ℕ) (rest : List ℕ) : Type 0 where
  pub values : List (List ℕ)
  pub counted : n ≡ length values
  pub lines : repeated "right=" (length s) s ≡ record { values = values; rest = rest }
