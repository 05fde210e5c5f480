-- Runs inside lists of numbers: a list that is a run, and a run that starts at a position.
use Rattle.std.specs.Prelude.{ℕ, ◌<◌, ◌≡◌, List, [], ◌∷◌, ◌++◌, drop}
use Rattle.terms.specs.Term.{Term, letter, zero, one, add, mul}
use Rattle.terms.specs.Run.{ZERO, run}

-- each letter is below the codes of 0, 1, sum and product, so that a run spells one term only
unfoldable pub Fine : Term → Type 0
Fine (letter n) = n < ZERO
Fine zero = Unit {0}
Fine one = Unit {0}
Fine (add s t) = Fine s × Fine t
Fine (mul s t) = Fine s × Fine t

-- the list is the run of t
pub record IsRun (xs : List ℕ) (t : Term) : Type 0 where
  pub fine : Fine t
  pub whole : xs ≡ run t

-- the run of t starts at position i of the list
pub record Holds (xs : List ℕ) (i : ℕ) (t : Term) : Type 0 where
  pub fine : Fine t
  pub rest : List ℕ
  pub here : drop i xs ≡ run t ++ rest

-- the runs of several terms, one after the other
abbrev pub runs : List Term → List ℕ
runs [] = []
runs (t ∷ ts) = run t ++ runs ts

abbrev pub AllFine : List Term → Type 0
AllFine [] = Unit {0}
AllFine (t ∷ ts) = Fine t × AllFine ts
