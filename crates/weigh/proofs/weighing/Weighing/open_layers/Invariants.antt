-- `open_layers` meets its contract. The loop's invariant: the layers below its total are opened.
use Rattle.std.proofs.Common.{◌≤◌, ◌≡◌, length}
use Rattle.weigh.specs.declared.layers.Stop.TheVariants.{Over}
use Rattle.weigh.proofs.Searching.{Onward}
use Rattle.weigh.proofs.weighing.Weighing.open_layers.Given as goal

abbrev pub invariant-loop-total : goal.invariant-loop-total
invariant-loop-total l =
    let s = l.self in
    let e = l.ended in
    (e.stop ≡ Over) × (e.noted ≤ s.slots) × (e.opened ≤ s.limits.nodes) × (length l.order ≡ 4097)
    × Onward s.weights s.cost s.limits l.right l.fn.ws l.ws e.noted e.opened l.total
