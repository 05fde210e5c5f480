-- FIND's noted terms, with their origins and distances, in the slots of a workspace.
use Rattle.std.specs.Prelude.{ℕ, ◌+◌, ◌<◌, ◌≡◌, List, [], ◌∷◌, ◌++◌, length, get_or}
use Rattle.terms.specs.Term.{Term, zero, size}
use Rattle.terms.specs.Held.{IsRun}
use Rattle.search.specs.Line.{Line}
use Rattle.search.specs.Search.{Noted, terms, entry}
use Rattle.search.specs.Coded.{name_of, direction_of}
use Rattle.search.specs.Place.{place_at}
use Rattle.search.specs.Runs.{origin_of, value_of, Runs}
use Rattle.search.specs.declared.slots.Step.{Step}
use Rattle.search.specs.declared.slots.Origin.{Origin}
use Rattle.search.specs.declared.slots.Origin.TheVariants.{Start, From}

-- the step stands for the line x on the term t
pub record Marks (s : Step) (t : Term) (x : Line) : Type 0 where
  pub law : x.law ≡ name_of s.law
  pub direction : x.direction ≡ direction_of s.direction
  pub inside : s.place < size t
  pub place : x.place ≡ place_at t s.place

-- the term noted in slot k
abbrev pub noted_at : List Noted → ℕ → Noted
noted_at ns k = get_or ns k (record { term = zero; trail = [] })

-- the step leads to n from a term noted before slot k
pub record Leads (s : Step) (ns : List Noted) (k : ℕ) (n : Noted) : Type 0 where
  pub before : s.parent < k
  pub line : Line
  pub marks : Marks s (noted_at ns s.parent).term line
  pub is : n ≡ entry (noted_at ns s.parent).trail line

-- slot 0 alone has the start
abbrev pub Comes : Origin → List Noted → ℕ → Noted → Type 0
Comes Start ns k n = (k ≡ 0) × (n.trail ≡ [])
Comes (From s) ns k n = Leads s ns k n

-- the first slots have the noted terms, in noting order
pub record Slots (ws : List ℕ) (ns : List Noted) : Type 0 where
  pub runs : Runs ws (terms ns)
  pub origin : (k : ℕ) → k < length ns → Comes (origin_of ws k) ns k (noted_at ns k)
  pub distance : (k : ℕ) → k < length ns → value_of ws k ≡ length (noted_at ns k).trail

-- what the functions promise

-- of `note_start`
pub record Starts (after xs : List ℕ) : Type 0 where
  pub slots : (t : Term) → IsRun xs t → Slots after (record { term = t; trail = [] } ∷ [])

-- of `note`: a line on a noted term leads to one more
pub record Notes (before after : List ℕ) (count : ℕ) (xs : List ℕ) (s : Step) (d : ℕ) : Type 0 where
  pub slots : (ns : List Noted) (x : Line) → Slots before ns → length ns ≡ count → s.parent < count
      → Marks s (noted_at ns s.parent).term x → IsRun xs x.result → d ≡ length (noted_at ns s.parent).trail + 1
      → Slots after (ns ++ (entry (noted_at ns s.parent).trail x ∷ []))
