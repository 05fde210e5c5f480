-- `open_layer` meets its contract: a law for each way out.
use Rattle.std.proofs.Common.{arith, rules, refl}
use Rattle.weigh.proofs.Layering.{midway_starts, layer_over, layer_right, layer_out, layer_full, layer_next}
use Rattle.weigh.proofs.weighing.Weighing.open_layer.Goals as goal

pub loop-k-init : goal.loop-k-init
loop-k-init c =
    let a = c.args in
    let s = a.self in
    (c.requires.0, c.requires.1, refl, midway_starts s.weights s.cost s.limits a.right.now a.layer.now a.total a.before a.ws.now)

pub returns-then-equal : goal.returns-then-equal
returns-then-equal c =
    let (fits, few, over, M) = c.loop-k.invariant in
    layer_right M fits few c.loop-k-test.true c.run_of.ensures c.equal.ensures c.if-equal.true

pub returns-then-self-now : goal.returns-then-self-now
returns-then-self-now c =
    let (fits, few, over, M) = c.loop-k.invariant in
    layer_out M fits few c.loop-k-test.true c.run_of.ensures c.equal.ensures c.if-equal.false c.if-self-now.true c.run_out.ensures

pub run_out-requires : goal.run_out-requires
run_out-requires c = search rules

pub open-requires : goal.open-requires
open-requires c = search rules

pub returns-in_default : goal.returns-in_default
returns-in_default c =
    let (fits, few, over, M) = c.loop-k.invariant in
    layer_full M fits few c.loop-k-test.true c.run_of.ensures c.equal.ensures c.if-equal.false (omega (arith, c.if-self-now.false)) c.args.self.small
    c.open.ensures c.in_default.is

pub loop-k-preserved : goal.loop-k-preserved
loop-k-preserved c =
    let (fits, few, over, M) = c.loop-k.invariant in (
      (rw c.in-Some.is at c.open.ensures).fits,
      omega (arith, c.if-self-now.false),
      over,
      layer_next M fits few c.loop-k-test.true c.run_of.ensures c.equal.ensures c.if-equal.false (omega (arith, c.if-self-now.false)) c.args.self.small
          c.open.ensures c.in-Some.is,
    )

pub returns : goal.returns
returns c =
    let (fits, few, over, M) = c.loop-k.invariant in
    rw over (layer_over M fits few (omega (arith, c.loop-k-test.false)))
