-- `lines_at` meets its contract. The loops' invariants: the lines of the steps before are taken, two for each law.
use Rattle.std.specs.Prelude.{◌+◌, ◌*◌, length, Some}
use Rattle.search.proofs.InTurn.{in_turn, step_lines}
use Rattle.weigh.specs.Opened.{TakesLines}
use Rattle.weigh.proofs.weighing.Weighing.lines_at.Given as goal

abbrev pub invariant-loop-law : goal.invariant-loop-law
invariant-loop-law l =
    TakesLines l.self.weights l.self.cost l.fn.ws l.fn.noted l.self.slots l.term.run.now (length l.fn.out) l.self.limits.depth l.term.slot l.term.total
    (in_turn (step_lines l.place l.term.slot) (2 * l.law-index)) (Some l.count) l.ws

abbrev pub invariant-loop-direction : goal.invariant-loop-direction
invariant-loop-direction l =
    TakesLines l.self.weights l.self.cost l.fn.ws l.fn.noted l.self.slots l.term.run.now (length l.fn.out) l.self.limits.depth l.term.slot l.term.total
    (in_turn (step_lines l.place l.term.slot) (2 * l.law-index + l.direction-index)) (Some l.count) l.ws
