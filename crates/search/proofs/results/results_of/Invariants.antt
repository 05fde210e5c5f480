-- `results_of` meets its contract. The loop's invariant: the lines at the places before are tried.
use Prim.Native.Nat.{◌*◌}
use Rattle.search.specs.Resulted.{Adds, Lent}
use Rattle.search.proofs.InTurn.{in_turn, place_lines}
use Rattle.search.proofs.results.results_of.Given as goal

abbrev pub invariant-loop-place : goal.invariant-loop-place
invariant-loop-place l =
    let r = l.fn.results in
    Lent r.slots r.order l.results.slots l.results.order
    × Adds l.noted.slots.now l.noted.count l.s l.size l.depth l.parent (in_turn place_lines l.place) (20 * l.place)
    r.slots.now r.order.now 0 l.results.slots.now l.results.order.now l.results.count
