-- What the functions that rename promise: an equation of two runs, with room for so many numbers on each side.
use Rattle.std.specs.Prelude.{◌≡◌, ℕ, ◌-◌, ◌<◌, ◌≤◌, min, List, [], ◌++◌, length, ◌≢◌}
use Rattle.terms.specs.Compare.{Ordering, order_numbers}
use Rattle.terms.specs.Equation.{Equation, orient}
use Rattle.terms.specs.Term.{Term, size}
use Rattle.terms.specs.Letters.{letters, rising, variables}
use Rattle.terms.specs.Run.{ZERO, run}
use Rattle.terms.specs.Held.{IsRun}
use Rattle.words.specs.Rename.{order_equations, lesser, canonical_terms}
use Rattle.words.specs.Decoded.{renaming, least_to}
use Rattle.words.specs.RenameRun.{rename_run}

-- the two runs that an equation in the making holds
abbrev pub Sides : Type 0
Sides = Equation (List ℕ)

-- an equation in the making: its two runs, and how many numbers each may have
pub record Making : Type 0 where
  pub sides : Sides
  pub room : ℕ

-- the room in two buffers
abbrev pub room_of : (left right : List ℕ) → ℕ
room_of left right = min (length left) (length right)

-- nothing on either side
abbrev pub nothing : ℕ → Making
nothing n = record { sides = record { left = []; right = [] }; room = n }

-- the runs have at most n numbers, and there is room for n on each side
pub record Room (n : ℕ) (xs ys : List ℕ) (room : ℕ) : Type 0 where
  pub first : length xs ≤ n
  pub second : length ys ≤ n
  pub sides : n ≤ room

-- the order of two equations of runs, side by side
abbrev pub ordered : (xs ys us vs : List ℕ) → Ordering
ordered xs ys us vs = order_equations order_numbers (record { left = xs; right = ys }) (record { left = us; right = vs })

-- of `store`
pub record Stores (xs ys : List ℕ) (room : ℕ) (e' : Sides) : Type 0 where
  pub exact : length xs ≤ room → length ys ≤ room → e' ≡ record { left = xs; right = ys }

pub record Keeps (xs ys : List ℕ) (room : ℕ) (e' : Sides) : Type 0 where
  pub exact : (n : ℕ) → Room n xs ys room → e' ≡ orient order_numbers xs ys

pub record KeepsLesser (xs ys : List ℕ) (room : ℕ) (e e' : Sides) : Type 0 where
  pub exact : (n : ℕ) → Room n xs ys room → e' ≡ lesser order_numbers e (orient order_numbers xs ys)

-- two runs tried as candidate number c: the first is kept, and a later one if it makes a lesser equation than the best so far
pub record Tries (xs ys : List ℕ) (c room : ℕ) (e e' : Sides) : Type 0 where
  pub first : c ≡ 0 → Keeps xs ys room e'
  pub later : (c ≢ 0) → KeepsLesser xs ys room e e'

-- the least of the candidates before c becomes the least of those up to c, if there is room
pub record Visits (IsRoom : Type 0) (candidate : ℕ → Sides) (c : ℕ) (e e' : Sides) : Type 0 where
  pub exact : IsRoom → (0 < c → e ≡ least_to order_numbers candidate (c - 1)) → e' ≡ least_to order_numbers candidate c

-- what `new` makes is tried as candidate number c, if it keeps letters below 4096
pub record Offers (IsRoom : Type 0) (equation : (ℕ → ℕ) → Sides) (new : ℕ → ℕ) (c : ℕ) (e e' : Sides) : Type 0 where
  pub exact : (candidate : ℕ → Sides) → candidate c ≡ equation new → ((n : ℕ) → n < ZERO → new n < ZERO) → Visits IsRoom candidate c e e'

-- an equation of runs is found, if there is room
pub record Finds (IsRoom : Type 0) (e e' : Sides) : Type 0 where
  pub exact : IsRoom → e' ≡ e

-- the equation that renaming number c makes of the runs of two terms
abbrev pub candidate : (names xs ys : List ℕ) → ℕ → Equation (List ℕ)
candidate names xs ys c = orient order_numbers (rename_run (renaming names c) xs) (rename_run (renaming names c) ys)

-- the canonical equation of two terms of at most 31 nodes with at most six v letters
pub record CanonicalTerms (xs ys : List ℕ) (room : ℕ) (e : Sides) : Type 0 where
  pub exact : (s t : Term) → IsRun xs s → IsRun ys t → size s ≤ 31 → size t ≤ 31
      → length (rising (variables (letters s ++ letters t))) ≤ 6 → 31 ≤ room
      → (e.left ≡ run (canonical_terms s t).left) × (e.right ≡ run (canonical_terms s t).right)
