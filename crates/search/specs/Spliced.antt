-- A line at one place: the term with another subterm there, as a run at the front of a buffer.
use Rattle.std.specs.Prelude.{ℕ, ◌+◌, ◌-◌, ◌≤◌, ◌<◌, ◌≡◌, ◌⊎◌, Bool, true, false, cond, List, [], ◌∷◌, ◌++◌, map, leb, length, take, drop, Option, Some, None}
use Rattle.std.proofs.Math.Option.{some}
use Rattle.terms.specs.Term.{Term, size, same}
use Rattle.terms.specs.Held.{IsRun}
use Rattle.search.specs.Law as law
use Rattle.search.specs.Match.{Bindings, put}
use Rattle.search.specs.Line as line
use Rattle.search.specs.Line.{Line, at_root}
use Rattle.search.specs.Place.{subterm_at, replace_at, placed}
use Rattle.search.specs.Span.{Pattern, Means}
use Rattle.search.specs.Coded.{law_of, direction_of}
use Rattle.search.specs.Filled.{Between}
use Rattle.search.specs.declared.search.Law.{Law}
use Rattle.search.specs.declared.search.Direction.{Direction}
use Rattle.search.specs.declared.search.Spans.{Spans}

-- the numbers of xs from position a to position e
abbrev pub part : List ℕ → ℕ → ℕ → List ℕ
part xs a e = take (e - a) (drop a xs)

-- the run goes on with what follows in xs, unless it changes nothing there or has no room
abbrev pub Finished : List ℕ → ℕ → ℕ → List ℕ → ℕ → ℕ → List ℕ → Option ℕ → Type 0
Finished xs at end before n m out (Some k) =
    (part before n m ≡ part xs at end → ⊥) × (k ≡ m + (length xs - end)) × (k ≤ length before) × (take k out ≡ take m before ++ drop end xs)
Finished xs at end before n m out None = (part before n m ≡ part xs at end) ⊎ (length before < m + (length xs - end))

pub record Finishes (xs : List ℕ) (at end : ℕ) (before : List ℕ) (n m : ℕ) (out : List ℕ) (r : Option ℕ) : Type 0 where
  pub is : Finished xs at end before n m out r

-- the answer against what is put in for the subterm with number i: nothing where that changes nothing or has no room
abbrev pub Put : Term → ℕ → ℕ → List ℕ → Option ℕ → Term → Type 0
Put t i room out (Some m) u = (same u (subterm_at t i) ≡ false) × (size (replace_at t i u) ≤ room) × IsRun (take m out) (replace_at t i u)
Put t i room out None u = (same u (subterm_at t i) ≡ true) ⊎ (room < size (replace_at t i u))

pub record Splices (q xs : List ℕ) (z : Spans) (at end room : ℕ) (out : List ℕ) (r : Option ℕ) : Type 0 where
  pub within : Between 0 room r
  pub exact : (t p u : Term) (σ : Bindings) → IsRun xs t → at < size t → end ≡ at + size (subterm_at t at) → Means xs z σ → IsRun q p → Pattern p → put p σ ≡ some u
      → Put t at room out r u

-- the lines whose results have at most m nodes
unfoldable pub kept : ℕ → List Line → List Line
unfolding size
kept m [] = []
kept m (x ∷ xs) = cond (leb (size x.result) m) (x ∷ kept m xs) (kept m xs)

-- the line of a law at the subterm with number i, one or none, whose result has at most m nodes
unfoldable pub tried : ℕ → Term → ℕ → law.Law → line.Direction → List Line
unfolding kept placed at_root subterm_at
tried m t i w d = kept m (map (placed t i) (at_root (subterm_at t i) w d))

-- the result of the one line stands at the front of the buffer
abbrev pub Gives : List ℕ → Option ℕ → List Line → Type 0
Gives out (Some m) [] = ⊥
Gives out (Some m) (x ∷ []) = IsRun (take m out) x.result
Gives out (Some m) (x ∷ y ∷ xs) = ⊥
Gives out None [] = Unit {0}
Gives out None (x ∷ xs) = ⊥

-- of `put_line`
pub record Tries (w : Law) (d : Direction) (xs : List ℕ) (at room : ℕ) (out : List ℕ) (r : Option ℕ) : Type 0 where
  pub within : Between 0 room r
  pub exact : (t : Term) → IsRun xs t → at < size t → Gives out r (tried room t at (law_of w) (direction_of d))

-- of `outgrows`: where it is true the law has no line with room for its result at any place of a term of n nodes
pub record Outgrows (w : Law) (d : Direction) (n room : ℕ) (r : Bool) : Type 0 where
  pub exact : r ≡ true → (t : Term) (i : ℕ) → size t ≡ n → i < size t → tried room t i (law_of w) (direction_of d) ≡ []
