-- `open_layers` meets its contract: a law for each way out.
use Rattle.std.proofs.Common.{arith, rules, refl}
use Rattle.weigh.proofs.Searching.{onward_starts, onward_next, onward_stops, onward_ends}
use Rattle.weigh.proofs.weighing.Weighing.open_layers.Goals as goal

pub loop-total-init : goal.loop-total-init
loop-total-init c =
    let a = c.args in
    let s = a.self in
    (refl, omega (arith, c.requires.0), omega arith, refl, onward_starts s.weights s.cost s.limits a.right.now a.ws.now)

pub overflow_sub-most : goal.overflow_sub-most
overflow_sub-most c = search rules

pub gather-count-requires : goal.gather-count-requires
gather-count-requires c = search rules

pub open_layer-ended-requires : goal.open_layer-ended-requires
open_layer-ended-requires c = search rules

pub returns-in_default : goal.returns-in_default
returns-in_default c =
    let (over, fits, few, long, On) = c.loop-total.invariant in
    onward_stops On c.gather-count.ensures (omega (arith, long, c.gather-count.auto.order, c.args.self.short)) c.open_layer-ended.ensures c.in_default.not-Over

pub loop-total-preserved : goal.loop-total-preserved
loop-total-preserved c =
    let (over, fits, few, long, On) = c.loop-total.invariant in
    let L = c.open_layer-ended.ensures in (
      c.in-Over.is,
      L.fits,
      L.few,
      omega (arith, long, c.gather-count.auto.order),
      onward_next On c.gather-count.ensures (omega (arith, long, c.gather-count.auto.order, c.args.self.short)) L c.in-Over.is,
    )

pub returns : goal.returns
returns c =
    let (over, fits, few, long, On) = c.loop-total.invariant in
    rw over (onward_ends On (omega (arith, c.loop-total-test.false)) fits)
