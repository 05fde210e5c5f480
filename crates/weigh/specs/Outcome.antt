-- How WEIGH's search ends: its outcome, read off the noted terms.
use Rattle.std.specs.Prelude.{ℕ, Bool, true, false, List, [], ◌∷◌, length}
use Rattle.std.proofs.Math.Option.{Option, none, some}
use Rattle.terms.specs.Term.{Term, same}
use Rattle.search.specs.Law.{Law}
use Rattle.search.specs.Line.{Line, Limits}
use Rattle.weigh.specs.Weigh.{Weights, Weighed, ends, arrives, opens, turn, opened_count, left_unopened, weighed}

-- a lightest path; a path in hand, with the smallest total among noted, unopened terms; or a none
pub data Outcome : Type 0 where
  proved : (path : List Line) (expanded noted : ℕ) → Outcome
  atmost : (path : List Line) (atleast expanded noted : ℕ) → Outcome
  unproved : (expanded noted : ℕ) (cut : Bool) → Outcome

-- the path that is returned
pub data Returns : Outcome → List Line → Type 0 where
  by_proved : {xs : List Line} {e n : ℕ} → Returns (proved xs e n) xs
  by_atmost : {xs : List Line} {l e n : ℕ} → Returns (atmost xs l e n) xs

abbrev pub expanded : Outcome → ℕ
expanded (proved path e n) = e
expanded (atmost path l e n) = e
expanded (unproved e n c) = e

abbrev pub noted : Outcome → ℕ
noted (proved path e n) = n
noted (atmost path l e n) = n
noted (unproved e n c) = n

-- what is noted of a term
unfoldable pub held : Term → List Weighed → Option Weighed
unfolding same
held t [] = none
held t (z ∷ zs) = elim (same t z.term) [ true ↦ some z | false ↦ held t zs ]

-- a none
unfoldable pub without_path : List Weighed → Outcome
unfolding opened_count left_unopened
without_path noted = unproved (opened_count noted) (length noted) (left_unopened noted)

-- no more terms may be opened, and x would be the next: the path held for right, if it is noted already, with x's total, the smallest
-- among noted, unopened terms; a none, if it is not
unfoldable pub in_hand : Term → Weighed → List Weighed → Outcome
unfolding held without_path opened_count
in_hand right x noted =
    elim (held right noted) [
      | none ↦ without_path noted
      | some z ↦ atmost z.trail x.total (opened_count noted) (length noted)
    ]

-- what the noted terms say at the end: right coming up counts before the node limit is looked at
unfoldable pub outcome : Term → List Weighed → Outcome
unfolding turn without_path in_hand opened_count
outcome right noted =
    elim (turn right noted) [
      | ends ↦ without_path noted
      | arrives x ↦ proved x.trail (opened_count noted) (length noted)
      | opens x ↦ in_hand right x noted
    ]

unfoldable pub weigh : List Law → Weights → ℕ → Limits → Term → Term → Outcome
unfolding weighed outcome
weigh ws w cost m left right = outcome right (weighed ws w cost m left right)
