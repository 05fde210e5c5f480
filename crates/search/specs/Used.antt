-- A law used at a position, on runs: what the functions promise. The runs of source and result stand one after the other in one list, so
-- that the parts that the law's letters stand for are positions of it.
use Rattle.std.specs.Prelude.{ℕ, ◌+◌, ◌-◌, ◌≤◌, ◌<◌, ◌≡◌, Bool, List, [], ◌∷◌, length, take, drop, Option, Some, None}
use Rattle.std.proofs.Math.Option.{none, some, map}
use Rattle.terms.specs.Term.{Term}
use Rattle.terms.specs.Held.{IsRun, Holds}
use Rattle.terms.specs.Numbers.{is_some}
use Rattle.search.specs.Line.{Side, from, to}
use Rattle.search.specs.Span.{Pattern}
use Rattle.search.specs.Coded.{law_of, direction_of}
use Rattle.search.specs.Chain.{match_both, is_use}
use Rattle.search.specs.Path.{subterm}
use Rattle.search.specs.Position.{position}
use Rattle.search.specs.declared.search.Law.{Law}
use Rattle.search.specs.declared.search.Direction.{Direction}

-- of `fits_pair`: p and q are the runs of a law's sides
pub record FitsPair (p q xs : List ℕ) (at other : ℕ) (r : Bool) : Type 0 where
  pub exact : (u v a b : Term) → IsRun p u → Pattern u → IsRun q v → Pattern v → Holds xs at a → Holds xs other b → r ≡ is_some (match_both u v a b)

-- of `fits_both`
pub record FitsBoth (w : Law) (d : Direction) (xs : List ℕ) (at other : ℕ) (r : Bool) : Type 0 where
  pub exact : (a b : Term) → Holds xs at a → Holds xs other b
      → r ≡ is_some (match_both (from (direction_of d) (law_of w)) (to (direction_of d) (law_of w)) a b)

-- of `is_use`
pub record Uses (w : Law) (d : Direction) (both : List ℕ) (middle at : ℕ) (r : Bool) : Type 0 where
  pub exact : (s t : Term) → IsRun (take middle both) s → IsRun (drop middle both) t → (p : List Side) → position p s ≡ some at
      → r ≡ is_use (law_of w) (direction_of d) p s t

-- the part of the term t at position n that is on side d starts at position k
pub record Entered (xs : List ℕ) (n : ℕ) (t : Term) (d : Side) (k : ℕ) : Type 0 where
  pub part : Term
  pub is : subterm (d ∷ []) t ≡ some part
  pub held : Holds xs k part
  pub later : n < k
  pub positions : (p : List Side) → position (d ∷ p) t ≡ map (λ i. k - n + i) (position p part)

abbrev pub Enters : List ℕ → ℕ → Term → Side → Option ℕ → Type 0
Enters xs n t d (Some k) = Entered xs n t d k
Enters xs n t d None = (p : List Side) → position (d ∷ p) t ≡ none

abbrev pub Inside : ℕ → Option ℕ → Type 0
Inside n (Some k) = k ≤ n
Inside n None = Unit {0}

-- of `part`: side d is the left one or the right one
pub record PartOn (xs : List ℕ) (n : ℕ) (d : Side) (r : Option ℕ) : Type 0 where
  pub within : Inside (length xs) r
  pub exact : (t : Term) → Holds xs n t → Enters xs n t d r
