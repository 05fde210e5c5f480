-- The proof text of a law applied to terms, by what each letter of the law stands for.
use Rattle.std.specs.Prelude.{ℕ, ◌+◌, ◌≤◌, ◌≡◌, List, [], ◌++◌, length, take}
use Rattle.std.proofs.Math.Option.{Option, none, some}
use Rattle.terms.specs.Term.{Term, size}
use Rattle.terms.specs.Held.{Holds}
use Rattle.search.specs.Match.{Bindings}
use Rattle.text.specs.Bytes.{ascii}
use Rattle.text.specs.Proof.{term}

-- what stands before the law's name for a letter
unfoldable pub application : Option Term → List ℕ
unfolding ascii
application none = []
application (some t) = ascii "(app "

-- what stands behind it
unfoldable pub argument : List ℕ → Option Term → List ℕ
unfolding ascii term
argument names none = []
argument names (some t) = ascii " " ++ (term names t ++ ascii ")")

-- for all letters of a law: the last one is applied to last, so that its application comes first
unfoldable pub applications : Bindings → List ℕ
unfolding application
applications σ = application (σ 2) ++ application (σ 1) ++ application (σ 0)

unfoldable pub arguments : List ℕ → Bindings → List ℕ
unfolding argument
arguments names σ = argument names (σ 0) ++ argument names (σ 1) ++ argument names (σ 2)

-- of `copy_term`: the term held at a position of xs stands behind the first n numbers, which stay, if there is room
pub record Copies (xs : List ℕ) (from : ℕ) (out : List ℕ) (n r : ℕ) (out' : List ℕ) : Type 0 where
  pub within : r ≤ length out
  pub kept : take n out' ≡ take n out
  pub exact : (t : Term) → Holds xs from t → n + size t ≤ length out → (r ≡ n + size t) × Holds out' n t
