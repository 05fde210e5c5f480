-- The results of an opened term in slots like those of noted terms, and the numbers of their slots in term order.
use Rattle.std.specs.Prelude.{ℕ, ◌+◌, ◌≤◌, ◌<◌, ◌≡◌, true, false, List, [], ◌∷◌, ◌++◌, length, take, drop, get_or, Option, Some, None}
use Rattle.std.specs.declared.cmp.Ordering as answered
use Rattle.std.specs.declared.cmp.Ordering.TheVariants.{Less, Equal, Greater}
use Rattle.terms.specs.Compare.{Ordering, lt, eq, gt, order_numbers}
use Rattle.terms.specs.Term.{Term, order}
use Rattle.terms.specs.Held.{IsRun}
use Rattle.terms.specs.Sort.{lost, insert, insert_all, Sorted}
use Rattle.search.specs.Line.{Line, by_result}
use Rattle.search.specs.Search.{Noted, is_noted}
use Rattle.search.specs.Runs.{Spells, origin_of, term_at, shown}
use Rattle.search.specs.Slots.{Marks, Slots}
use Rattle.search.specs.declared.slots.Step.{Step}
use Rattle.search.specs.declared.slots.Origin.TheVariants.{From}

-- slot k has the line x on the term t, which is noted in slot `from`
pub record Result (t : Term) (from : ℕ) (res : List ℕ) (k : ℕ) (x : Line) : Type 0 where
  pub run : Spells res k x.result
  pub step : Step
  pub origin : origin_of res k ≡ From step
  pub parent : step.parent ≡ from
  pub marks : Marks step t x

-- each number names the slot of the line at its place, one of the first n slots
pub data Named (t : Term) (from : ℕ) (res : List ℕ) (n : ℕ) : List ℕ → List Line → Type 0 where
  none : Named t from res n [] []
  more : {k : ℕ} {ks : List ℕ} {x : Line} {xs : List Line} → k < n → Result t from res k x → Named t from res n ks xs → Named t from res n (k ∷ ks) (x ∷ xs)

-- and the lines are in term order
pub record Ordered (t : Term) (from : ℕ) (res : List ℕ) (n : ℕ) (ks : List ℕ) (xs : List Line) : Type 0 where
  pub named : Named t from res n ks xs
  pub rising : Sorted lost by_result xs

abbrev pub inserted : Line → List Line → List Line
inserted = insert lost by_result

-- the lines whose results are not noted
unfoldable pub unknown : List Noted → List Line → List Line
unfolding is_noted
unknown ns [] = []
unknown ns (x ∷ xs) = elim (is_noted x.result ns) [ true ↦ unknown ns xs | false ↦ x ∷ unknown ns xs ]

-- the second lines put among the first, which are in term order, but for those whose results are noted
abbrev pub joined : List Noted → List Line → List Line → List Line
joined ns ys xs = insert_all lost by_result ys (unknown ns xs)

-- what the code answers, for an order of the definitions
abbrev pub answer : Ordering → answered.Ordering
answer lt = Less
answer eq = Equal
answer gt = Greater

-- how the run in slot k compares with xs
abbrev pub judged : List ℕ → List ℕ → ℕ → answered.Ordering
judged res xs k = answer (order_numbers (shown res k) xs)

-- what the functions promise

-- each number names a slot that spells the term at its place
pub record Spelled (res ks : List ℕ) (ts : List Term) : Type 0 where
  pub count : length ks ≡ length ts
  pub spells : (p : ℕ) → p < length ks → Spells res (get_or ks p 0) (term_at ts p)

-- where an item goes among others: behind the first p of them, or nowhere, since it is there
abbrev pub Goes : {A : Type 0} → (A → A → Ordering) → Option ℕ → A → List A → Type 0
Goes o (Some p) x ys = (p ≤ length ys) × (insert lost o x ys ≡ take p ys ++ (x ∷ drop p ys))
Goes o None x ys = insert lost o x ys ≡ ys

abbrev pub SpotWithin : ℕ → Option ℕ → Type 0
SpotWithin n (Some p) = p ≤ n
SpotWithin n None = Unit {0}

-- of `spot_of`: where a term goes among those whose slots ks names
pub record Spotted (res ks xs : List ℕ) (r : Option ℕ) : Type 0 where
  pub within : SpotWithin (length ks) r
  pub goes : (ts : List Term) (t : Term) → Spelled res ks ts → Sorted lost order ts → IsRun xs t → Goes order r t ts

-- of `keep`: the first r slots have the results, in term order; ws has `noted` terms
pub record Keeps (ws : List ℕ) (noted : ℕ) (xs : List ℕ) (s : Step) (res order res' order' : List ℕ) (count r : ℕ) : Type 0 where
  pub low : count ≤ r
  pub high : r ≤ count + 1
  pub sorts : (ns : List Noted) (t : Term) (ys : List Line) (x : Line) → Slots ws ns → length ns ≡ noted → IsRun xs x.result → Marks s t x
      → Ordered t s.parent res count (take count order) ys → Ordered t s.parent res' r (take r order') (joined ns ys (x ∷ []))
