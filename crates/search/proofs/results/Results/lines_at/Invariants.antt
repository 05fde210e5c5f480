-- `lines_at` meets its contract. The loops' invariants: the lines of the steps before are tried, two for each law.
use Prim.Native.Nat.{◌+◌, ◌*◌}
use lib.ListN.{length}
use Rattle.search.specs.Resulted.{Adds, Lent}
use Rattle.search.proofs.InTurn.{in_turn, step_lines}
use Rattle.search.proofs.results.Results.lines_at.Given as goal

abbrev pub invariant-loop-law : goal.invariant-loop-law
invariant-loop-law l =
    let s = l.fn.self in
    Lent s.slots s.order l.self.slots l.self.order
    × Adds l.term.noted.slots.now l.term.noted.count l.term.run.now (length l.fn.out) l.term.depth l.term.slot (in_turn (step_lines l.place l.term.slot) (2 * l.law-index)) (2 * l.law-index)
    s.slots.now s.order.now s.count l.self.slots.now l.self.order.now l.self.count

abbrev pub invariant-loop-direction : goal.invariant-loop-direction
invariant-loop-direction l =
    let n = 2 * l.law-index + l.direction-index in
    let s = l.fn.self in
    Lent s.slots s.order l.self.slots l.self.order
    × Adds l.term.noted.slots.now l.term.noted.count l.term.run.now (length l.fn.out) l.term.depth l.term.slot (in_turn (step_lines l.place l.term.slot) n) n
    s.slots.now s.order.now s.count l.self.slots.now l.self.order.now l.self.count
