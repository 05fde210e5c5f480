-- What the reader of a side finds: the numbers of the items, and the run of the term.
use Rattle.std.specs.Prelude.{ℕ, ◌≤◌, List, ◌≡◌, length, take, MatchOption}
use Rattle.std.specs.Prelude as answered
use Rattle.std.proofs.Math.Option.{none, some}
use Rattle.terms.specs.Term.{Term}
use Rattle.terms.specs.Held.{IsRun}
use Rattle.terms.specs.Numbers.{read_run}
use Rattle.text.specs.TermText.{read_term}

-- the first n numbers make what the items make
pub record ItemsRead (bs run : List ℕ) (n : ℕ) : Type 0 where
  pub room : n ≤ length run
  pub same : read_term bs ≡ read_run (take n run)

-- the numbers of the items, unless one stands for nothing
abbrev pub ReadsItems : (bs run : List ℕ) → answered.Option ℕ → Type 0
ReadsItems bs run o = MatchOption o (read_term bs ≡ none) (λ n. ItemsRead bs run n)

-- the first n numbers are the run of the term that the side spells
pub record TermRead (bs run : List ℕ) (n : ℕ) : Type 0 where
  pub room : n ≤ length run
  pub term : Term
  pub read : read_term bs ≡ some term
  pub whole : IsRun (take n run) term

-- the run of that term, if there is one
abbrev pub ReadsTerm : (bs run : List ℕ) → answered.Option ℕ → Type 0
ReadsTerm bs run o = MatchOption o (read_term bs ≡ none) (λ n. TermRead bs run n)
