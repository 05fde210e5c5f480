-- `open` meets its contract. The loop's invariant: the lines at the places before are taken.
use Rattle.std.specs.Prelude.{Some}
use Rattle.search.proofs.InTurn.{in_turn, place_lines}
use Rattle.weigh.specs.Opened.{TakesLines}
use Rattle.weigh.proofs.weighing.Weighing.open.Given as goal

abbrev pub invariant-loop-place : goal.invariant-loop-place
invariant-loop-place l =
    TakesLines l.self.weights l.self.cost l.fn.ws l.fn.noted l.self.slots l.term.run.now l.self.limits.size l.self.limits.depth l.i l.term.total
    (in_turn place_lines l.place) (Some l.count) l.ws
