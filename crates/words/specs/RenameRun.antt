-- Runs renamed number by number: of a term's run, the run of the renamed term.
use Rattle.std.specs.Prelude.{◌≡◌, ℕ, true, false, List, map, length, nat_lt}
use Rattle.terms.specs.Run.{ZERO}
use Rattle.words.specs.Rename.{count_from}

-- a letter's new name; the codes of 0, 1, sum and product stay
unfoldable pub rename_number : (ℕ → ℕ) → ℕ → ℕ
rename_number f x = elim (nat_lt x ZERO) [ true ↦ f x | false ↦ x ]

abbrev pub rename_run : (ℕ → ℕ) → List ℕ → List ℕ
rename_run f = map (rename_number f)

-- the table has the new number of each number below its length
abbrev pub Tabled : (ℕ → ℕ) → List ℕ → Type 0
Tabled f table = table ≡ rename_run f (count_from (length table) 0)
