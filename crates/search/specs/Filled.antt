-- A law's side with the bound terms put in, as a run after the first n numbers of a buffer.
use Rattle.std.specs.Prelude.{ℕ, ◌+◌, ◌≤◌, ◌<◌, ◌≡◌, List, ◌++◌, length, take, Option, Some, None}
use Rattle.std.proofs.Math.Option.{some}
use Rattle.terms.specs.Term.{Term, size}
use Rattle.terms.specs.Run.{run}
use Rattle.terms.specs.Held.{IsRun}
use Rattle.search.specs.Match.{Bindings, put}
use Rattle.search.specs.Span.{Pattern, Means}
use Rattle.search.specs.declared.search.Spans.{Spans}

-- the answer against the term that is put in: nothing where there is no room for it
abbrev pub Holding : List ℕ → List ℕ → ℕ → Option ℕ → Term → Type 0
Holding before after n (Some m) u = (m ≡ n + size u) × (take m after ≡ take n before ++ run u)
Holding before after n None u = length before < n + size u

-- where the run ends, if there is one
abbrev pub Between : ℕ → ℕ → Option ℕ → Type 0
Between low high (Some m) = (low ≤ m) × (m ≤ high)
Between low high None = Unit {0}

pub record Fills (q xs : List ℕ) (z : Spans) (before after : List ℕ) (n : ℕ) (r : Option ℕ) : Type 0 where
  pub within : Between n (length before) r
  pub exact : (p u : Term) (σ : Bindings) → Means xs z σ → IsRun q p → Pattern p → put p σ ≡ some u → Holding before after n r u
