-- `position_of` meets its contract: what is left of the place, at the subterm reached.
use Rattle.checking.proofs.Placing.{Reaches}
use Rattle.checking.proofs.place.position_of.Given as goal

abbrev pub invariant-loop-b : goal.invariant-loop-b
invariant-loop-b l = Reaches l.place l.run l.at l.b-index
