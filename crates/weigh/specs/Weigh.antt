-- WEIGH's search for the cheapest path: the noted term with the least total is opened next.
use Prim.Native.Nat.{ℕ, suc, ◌+◌, compare}
use Rattle.std.specs.Prelude.{Bool, true, false, List, [], ◌∷◌, ◌++◌, map, get_or, ltb, leb}
use Rattle.std.proofs.Math.Option.{Option, none, some}
use Rattle.terms.specs.Compare.{Ordering, lt, eq, gt, then}
use Rattle.terms.specs.Term.{Term, order, same}
use Rattle.search.specs.Law.{Law, Name, rank}
use Rattle.search.specs.Line.{Line, Limits, lines, allowed}

-- a weight for each law
abbrev pub Weights : Type 0
Weights = Name → ℕ

-- the weights in law order as those of the laws; a law that has none in the list weighs 1
unfoldable pub weights_of : List ℕ → Weights
weights_of ns n = get_or ns (rank n) 1

-- the sum of the lines' weights
unfoldable pub weight : Weights → List Line → ℕ
weight w [] = 0
weight w (x ∷ xs) = w x.law + weight w xs

-- a noted term, with the path that leads to it from the left side, the path's total, and whether the term was opened
pub record Weighed : Type 0 where
  pub term : Term
  pub trail : List Line
  pub total : ℕ
  pub opened : Bool

abbrev pub terms : List Weighed → List Term
terms noted = map (λ x. x.term) noted

-- left is noted with total 0
abbrev pub start : Term → Weighed
start left = record { term = left; trail = []; total = 0; opened = false }

-- the term that a line on x leads to
abbrev pub led : Weights → Weighed → Line → Weighed
led w x y = record { term = y.result; trail = x.trail ++ (y ∷ []); total = x.total + w y.law; opened = false }

-- one that is not noted is noted; a lower total replaces path and total
unfoldable pub note : Weighed → List Weighed → List Weighed
unfolding same
note n [] = n ∷ []
note n (z ∷ zs) =
    elim (same n.term z.term) [
      | false ↦ z ∷ note n zs
      | true ↦ elim (ltb n.total z.total) [ true ↦ n ∷ zs | false ↦ z ∷ zs ]
    ]

-- the lines on x, one after another: of several lines to one result the lightest counts, then the first; a total above cost isn't noted
unfoldable pub note_lines : Weights → ℕ → Weighed → List Line → List Weighed → List Weighed
unfolding note
note_lines w cost x [] noted = noted
note_lines w cost x (y ∷ ys) noted =
    elim (leb (x.total + w y.law) cost) [
      | true ↦ note_lines w cost x ys (note (led w x y) noted)
      | false ↦ note_lines w cost x ys noted
    ]

-- the term t is opened
unfoldable pub mark : Term → List Weighed → List Weighed
unfolding same
mark t [] = []
mark t (z ∷ zs) =
    elim (same t z.term) [
      | true ↦ record { term = z.term; trail = z.trail; total = z.total; opened = true } ∷ zs
      | false ↦ z ∷ mark t zs
    ]

-- by total, ties in term order
abbrev pub by_total : Weighed → Weighed → Ordering
by_total x y = then (compare x.total y.total) (order x.term y.term)

unfoldable pub lesser : Weighed → Option Weighed → Weighed
unfolding then order
lesser x none = x
lesser x (some y) = elim (by_total x y) [ lt ↦ x | eq ↦ x | gt ↦ y ]

-- the noted term that is opened next: the least of those not opened
unfoldable pub least : List Weighed → Option Weighed
unfolding lesser
least [] = none
least (x ∷ xs) = elim x.opened [ true ↦ least xs | false ↦ some (lesser x (least xs)) ]

-- nothing is left to open, right comes up, or another term does
pub data Turn : Type 0 where
  ends : Turn
  arrives : Weighed → Turn
  opens : Weighed → Turn

unfoldable pub turn : Term → List Weighed → Turn
unfolding least same
turn right noted =
    elim (least noted) [
      | none ↦ ends
      | some x ↦ elim (same x.term right) [ true ↦ arrives x | false ↦ opens x ]
    ]

-- `spread next w cost right fuel noted`: the noted terms when the search ends, if at most fuel more may be opened
unfoldable pub spread : (Term → List Line) → Weights → ℕ → Term → ℕ → List Weighed → List Weighed
unfolding turn mark note_lines
spread next w cost right ℕ.zero noted = noted
spread next w cost right (suc f) noted =
    elim (turn right noted) [
      | ends ↦ noted
      | arrives x ↦ noted
      | opens x ↦ spread next w cost right f (note_lines w cost x (next x.term) (mark x.term noted))
    ]

-- how many terms were opened
unfoldable pub opened_count : List Weighed → ℕ
opened_count [] = 0
opened_count (x ∷ xs) = elim x.opened [ true ↦ suc (opened_count xs) | false ↦ opened_count xs ]

-- whether a noted term was left unopened
unfoldable pub left_unopened : List Weighed → Bool
left_unopened [] = false
left_unopened (x ∷ xs) = elim x.opened [ true ↦ left_unopened xs | false ↦ true ]

-- the noted terms at the end of a search; size, depth and nodes of the limits count, steps don't
unfoldable pub weighed : List Law → Weights → ℕ → Limits → Term → Term → List Weighed
unfolding spread allowed lines
weighed ws w cost m left right = spread (λ t. allowed m (lines ws t)) w cost right m.nodes (start left ∷ [])
