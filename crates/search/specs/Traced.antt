-- The path to a noted term as it stands in the slots, and a place read one side after another.
use Rattle.std.specs.Prelude.{ℕ, ◌-◌, ◌≤◌, ◌<◌, ◌≡◌, List, [], ◌∷◌, length, take, Option as Answer, Some, None}
use Rattle.std.proofs.Math.Option.{some}
use Rattle.terms.specs.Term.{Term, size}
use Rattle.terms.specs.Held.{Holds}
use Rattle.search.specs.Line.{Line, Side}
use Rattle.search.specs.Path.{subterm}
use Rattle.search.specs.Search.{Noted, entry}
use Rattle.search.specs.Place.{place_at}
use Rattle.search.specs.Slots.{noted_at, Slots}
use Rattle.search.specs.Ordered.{Result}
use Rattle.search.specs.Coded.{side_of}
use Rattle.search.specs.declared.chain.Side as declared

-- slot k has the term to which the line x leads from the term in slot j
pub record Linked (ws : List ℕ) (ns : List Noted) (j k : ℕ) (x : Line) : Type 0 where
  pub within : k < length ns
  pub before : j < k
  pub line : Result (noted_at ns j).term j ws k x
  pub is : noted_at ns k ≡ entry (noted_at ns j).trail x

-- the slots ks have the terms to which the lines xs lead, one after the other, from the term in slot j on
pub data Traced (ws : List ℕ) (ns : List Noted) : ℕ → List ℕ → List Line → Type 0 where
  none : {j : ℕ} → Traced ws ns j [] []
  more : {j k : ℕ} {ks : List ℕ} {x : Line} {xs : List Line} → Linked ws ns j k x → Traced ws ns k ks xs → Traced ws ns j (k ∷ ks) (x ∷ xs)

-- what the functions promise

-- of `path_of`
pub record Traces (ws : List ℕ) (last : ℕ) (path : List ℕ) (r : Answer ℕ) : Type 0 where
  pub within : (n : ℕ) → r ≡ Some n → n ≤ length path
  pub exact : (ns : List Noted) → Slots ws ns → last < length ns → length (noted_at ns last).trail ≤ length path
      → let n = length (noted_at ns last).trail in (r ≡ Some n) × Traced ws ns 0 (take n path) (noted_at ns last).trail

-- the place i of the term t is on side d, in the part that starts at position n
pub record OnSide (xs : List ℕ) (t : Term) (i : ℕ) (d : Side) (n at : ℕ) : Type 0 where
  pub part : Term
  pub is : subterm (d ∷ []) t ≡ some part
  pub held : Holds xs n part
  pub inside : at - n < size part
  pub place : place_at t i ≡ d ∷ place_at part (at - n)

abbrev pub Turned : List ℕ → ℕ → ℕ → Term → Answer (declared.Side × ℕ) → Type 0
Turned xs from at t None = place_at t (at - from) ≡ []
Turned xs from at t (Some (d, n)) = OnSide xs t (at - from) (side_of d) n at

-- a part starts after the term, and not after the place; the term is its own part only at its root
abbrev pub Nears : ℕ → ℕ → Answer (declared.Side × ℕ) → Type 0
Nears from at None = at ≤ from
Nears from at (Some (d, n)) = (from < n) × (n ≤ at)

-- of `side_at`
pub record Turns (xs : List ℕ) (from at : ℕ) (turn : Answer (declared.Side × ℕ)) : Type 0 where
  pub nears : Nears from at turn
  pub exact : (t : Term) → Holds xs from t → at - from < size t → Turned xs from at t turn
