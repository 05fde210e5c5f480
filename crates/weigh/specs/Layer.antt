-- The terms of one total, which are opened one after the other.
use Rattle.std.specs.Prelude.{ℕ, true, false, List, [], ◌∷◌, eqb}
use Rattle.terms.specs.Compare.{Ordering}
use Rattle.terms.specs.Term.{order}
use Rattle.terms.specs.Sort.{lost, insert, sort}
use Rattle.weigh.specs.Weigh.{Weighed}

-- those that wait with total l
unfoldable pub waiting_at : ℕ → List Weighed → List Weighed
waiting_at l [] = []
waiting_at l (x ∷ xs) = elim x.opened [ true ↦ waiting_at l xs | false ↦ elim (eqb x.total l) [ true ↦ x ∷ waiting_at l xs | false ↦ waiting_at l xs ] ]

-- by the term alone
abbrev pub by_term : Weighed → Weighed → Ordering
by_term x y = order x.term y.term

-- the layer of total l
unfoldable pub layer_at : ℕ → List Weighed → List Weighed
unfolding waiting_at insert order
layer_at l noted = sort lost by_term (waiting_at l noted)
