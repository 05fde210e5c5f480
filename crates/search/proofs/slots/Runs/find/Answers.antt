use Rattle.std.proofs.Common.{arith}
use Rattle.search.proofs.Looking.{Tells, leading_next, tells, found_nowhere}
use Rattle.search.proofs.slots.Runs.find.Goals as goal

pub returns-then-has_run : goal.returns-then-has_run
returns-then-has_run c =
    let l = c.loop-k in
    let v = l.invariant in
    let r = c.args.self in
    let t : Tells r.slots.now r.count c.args.s.now l.k c.has_run.result = tells v.1 v.2 v.0 c.loop-k-test.true c.hash-h.ensures c.has_run.result c.has_run.ensures in
    rw c.if-has_run.true at t

pub loop-k-preserved : goal.loop-k-preserved
loop-k-preserved c =
    let l = c.loop-k in
    let v = l.invariant in
    let r = c.args.self in
    let t : Tells r.slots.now r.count c.args.s.now l.k c.has_run.result = tells v.1 v.2 v.0 c.loop-k-test.true c.hash-h.ensures c.has_run.result c.has_run.ensures in
    (omega arith, rw c.if-has_run.false at t, leading_next v.1 v.2 v.0 c.loop-k-test.true)

pub returns : goal.returns
returns c = let v = c.loop-k.invariant in found_nowhere v.1 v.2 v.0 (omega arith)
