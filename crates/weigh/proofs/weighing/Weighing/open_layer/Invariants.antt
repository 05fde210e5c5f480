-- `open_layer` meets its contract. The loop's invariant: the slots that the loop has not gone through are left of the layer.
use Rattle.std.proofs.Common.{◌≤◌}
use Rattle.std.specs.Prelude.{◌≡◌, drop}
use Rattle.weigh.specs.declared.layers.Stop.TheVariants.{Over}
use Rattle.weigh.proofs.Layering.{Midway}
use Rattle.weigh.proofs.weighing.Weighing.open_layer.Given as goal

abbrev pub invariant-loop-k : goal.invariant-loop-k
invariant-loop-k l =
    let s = l.self in
    (l.now.noted ≤ s.slots) × (l.now.opened ≤ s.limits.nodes)
    × (l.now.stop ≡ Over) × Midway s.weights s.cost s.limits l.right l.layer l.total l.fn.before l.fn.ws l.ws l.now.noted l.now.opened (drop l.k-index l.layer)
