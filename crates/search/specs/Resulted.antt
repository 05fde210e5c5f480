-- The results of an opened term: its lines are tried place by place and law by law, and each result that is not noted is put among those
-- in term order.
use Rattle.std.specs.Prelude.{ℕ, ◌+◌, ◌/◌, ◌≤◌, ◌≡◌, Bool, List, map, ltb, length, take}
use denote.Ref.{MutBor, at_last}
use Rattle.terms.specs.Term.{Term, size, depth}
use Rattle.terms.specs.Held.{IsRun}
use Rattle.search.specs.Law.{semiring}
use Rattle.search.specs.Line.{Line, Limits, at_root, allowed, results}
use Rattle.search.specs.Place.{subterm_at, placed}
use Rattle.search.specs.Coded.{law_of, direction_of}
use Rattle.search.specs.Search.{Noted}
use Rattle.search.specs.Slots.{Slots}
use Rattle.search.specs.Ordered.{Ordered, unknown, joined}
use Rattle.search.specs.declared.slots.Step.{Step}

-- the line of a step on t: one or none
abbrev pub tried_by : Step → Term → List Line
tried_by s t = map (placed t s.place) (at_root (subterm_at t s.place) (law_of s.law) (direction_of s.direction))

-- how many nodes a term may have for all its lines, twenty at each place, to have room among n results
abbrev pub most_nodes : ℕ → ℕ
most_nodes n = n / 20

-- what the functions promise

-- the buffers of the results are lent still: the same ones, each with as many numbers
abbrev pub Lent : (slots order slots' order' : MutBor (List ℕ)) → Type 0
Lent slots order slots' order' =
    (slots' ≡ at_last slots slots'.now) × (order' ≡ at_last order order'.now) × (length slots'.now ≡ length slots.now) × (length order'.now ≡ length order.now)

-- of `too_deep`
pub record TooDeep (xs : List ℕ) (limit : ℕ) (r : Bool) : Type 0 where
  pub exact : (t : Term) → IsRun xs t → r ≡ ltb limit (depth t)

-- of `keep_line` and `lines_at`: the lines `new`, at most `most`, are tried after others, and the first r slots have all the results that are
-- not among the `noted` terms in ws, in term order
pub record Adds (ws : List ℕ) (noted : ℕ) (xs : List ℕ) (room deep from : ℕ) (new : Term → List Line) (most : ℕ) (res order : List ℕ) (count : ℕ) (res' order' : List ℕ) (r : ℕ) : Type 0 where
  pub low : count ≤ r
  pub high : r ≤ count + most
  pub exact : (ns : List Noted) (t : Term) (m : Limits) (ys : List Line) → Slots ws ns → length ns ≡ noted → IsRun xs t → m.size ≡ room → m.depth ≡ deep
      → Ordered t from res count (take count order) ys → Ordered t from res' r (take r order') (joined ns ys (allowed m (new t)))

-- of `results_of`, with room for n results
pub record Resulted (ws : List ℕ) (noted : ℕ) (xs : List ℕ) (from room deep n : ℕ) (res order : List ℕ) (r : ℕ) : Type 0 where
  pub few : r ≤ n
  pub exact : (ns : List Noted) (t : Term) (m : Limits) → Slots ws ns → length ns ≡ noted → IsRun xs t → size t ≤ most_nodes n → room ≤ 31 → m.size ≡ room → m.depth ≡ deep
      → Ordered t from res r (take r order) (unknown ns (results semiring m t))
