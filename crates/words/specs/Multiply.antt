-- Words put into slots one after the other, and what the functions that multiply out promise.
use Rattle.std.specs.Prelude.{◌≡◌, ℕ, suc, ◌+◌, ◌*◌, ◌≤◌, true, false, List, [], ◌∷◌, ◌++◌, map, length, take, drop, ◌==◌, slice_index_or}
use Rattle.terms.specs.Term.{Term, size}
use Rattle.terms.specs.Run.{ZERO, ONE}
use Rattle.terms.specs.Held.{IsRun, Holds}
use Rattle.words.specs.Words.{Word, products, expand}
use Rattle.words.specs.Spelled.{SLOT}
use Rattle.words.specs.Counts.{atoms, most, longest}
use Rattle.words.specs.declared.normal_form.Expanded.{Expanded}

-- the most words of a term of 31 nodes, and the most letters of one
abbrev pub MOST : ℕ
MOST = 324

abbrev pub LONGEST : ℕ
LONGEST = 16

-- the word stands in slot k
pub record InSlot (ws : List ℕ) (k : ℕ) (u : Word) : Type 0 where
  pub count : slice_index_or ws (SLOT * k) 0 ≡ length u
  pub letters : take (length u) (drop (SLOT * k + 1) ws) ≡ u
  pub short : length u ≤ LONGEST

-- the words stand one after the other, in the slots from j up to k
pub data Between (ws : List ℕ) : ℕ → ℕ → List Word → Type 0 where
  none : {j k : ℕ} → j ≡ k → Between ws j k []
  more : {j k : ℕ} {u : Word} {us : List Word} → InSlot ws j u → Between ws (suc j) k us → Between ws j k (u ∷ us)

-- the words are put into the slots from j up to k, and what is before them stays
pub record Puts (us : List Word) (ws : List ℕ) (j k : ℕ) (ws' : List ℕ) : Type 0 where
  pub put : Between ws' j k us
  pub front : take (SLOT * j) ws' ≡ take (SLOT * j) ws
  pub room : length ws' ≡ length ws

-- there is room for them from slot j on
pub record Fits (us : List Word) (ws : List ℕ) (j : ℕ) : Type 0 where
  pub few : j + length us ≤ MOST
  pub short : longest us ≤ LONGEST
  pub room : SLOT * MOST ≤ length ws

-- what a function that puts words from slot j on promises of the slot k after them
pub record PutsWords (us : List Word) (ws : List ℕ) (j k : ℕ) (ws' : List ℕ) : Type 0 where
  pub few : j ≤ MOST → k ≤ MOST
  pub exact : Fits us ws j → Puts us ws j k ws'

-- a word joined to each word in the slots from..to of xs
pub record JoinsRow (u : Word) (xs : List ℕ) (from to : ℕ) (ws : List ℕ) (j k : ℕ) (ws' : List ℕ) : Type 0 where
  pub few : j ≤ MOST → k ≤ MOST
  pub exact : (vs : List Word) → Between xs from to vs → Fits (map (u ++◌) vs) ws j → Puts (map (u ++◌) vs) ws j k ws'

-- each word in the slots from..middle of xs joined to each in the slots right..to
pub record Joins (xs : List ℕ) (from middle right to : ℕ) (ws : List ℕ) (j k : ℕ) (ws' : List ℕ) : Type 0 where
  pub few : j ≤ MOST → k ≤ MOST
  pub exact : (us vs : List Word) → Between xs from middle us → Between xs right to vs → Fits (products us vs) ws j → Puts (products us vs) ws j k ws'

-- the words of an atom, by its number in a run
unfoldable pub atom_words : ℕ → List Word
atom_words x = elim (x == ZERO) [ true ↦ [] | false ↦ elim (x == ONE) [ true ↦ [] ∷ [] | false ↦ (x ∷ []) ∷ [] ] ]

-- room to multiply t out into the slots of ws from j on, by way of those of ss from k on: there are no more words before them than so many
-- atoms here and there give
pub record Room (t : Term) (ws : List ℕ) (j : ℕ) (ss : List ℕ) (k : ℕ) : Type 0 where
  pub here : ℕ
  pub there : ℕ
  pub few_here : j ≤ most here
  pub few_there : k ≤ most there
  pub small : here + there + atoms t ≤ 16
  pub room_here : SLOT * MOST ≤ length ws
  pub room_there : SLOT * MOST ≤ length ss

-- the term at a position is multiplied out into the slots of ws from j on, and the slots of ss before k stay
pub record Expands (xs : List ℕ) (at : ℕ) (ws : List ℕ) (j : ℕ) (ss : List ℕ) (k : ℕ) (r : Expanded) (ws' ss' : List ℕ) : Type 0 where
  pub forward : at ≤ r.end
  pub few : j ≤ MOST → r.count ≤ MOST
  pub exact : (t : Term) → Holds xs at t → Room t ws j ss k
      → (r.end ≡ at + size t) × Puts (expand t) ws j r.count ws' × (take (SLOT * k) ss' ≡ take (SLOT * k) ss)

-- the term of a run is multiplied out into the first r slots
pub record MultipliesOut (xs ws ss : List ℕ) (r : ℕ) (ws' : List ℕ) : Type 0 where
  pub few : r ≤ MOST
  pub exact : (t : Term) → IsRun xs t → size t ≤ 31 → SLOT * MOST ≤ length ws → SLOT * MOST ≤ length ss → Puts (expand t) ws 0 r ws'
