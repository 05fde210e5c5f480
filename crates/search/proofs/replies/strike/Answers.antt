use Rattle.std.proofs.Common.{arith, rules, ◌<◌, length}
use Rattle.search.proofs.Replying.{struck_more, struck_past, struck_other, struck_all}
use Rattle.search.proofs.replies.strike.Goals as goal
use Rattle.search.proofs.replies.strike.Goals.{then-has_run+then-eq, else-has_run, else-has_run-via-then-has_run+else-eq, else-has_run-via-else-has_run}

pub loop-r-preserved : goal.loop-r-preserved
loop-r-preserved c =
    let l = c.loop-r in
    let v = l.invariant in
    let p : l.r < length l.replies = omega (arith, c.loop-r-test.true, l.auto.replies) in
    let d = c.has_run.ensures in
    elim c.if-has_run.branch [
      | then-has_run+then-eq w ↦ rw (w.replies-is, w.count-is) (omega arith, struck_more v.1 l.auto.replies p d w.if-has_run.true (search rules))
      | else-has_run w ↦
          rw (w.replies-is, w.count-is) (
            omega arith,
            elim w.else-has_run.branch [
              | else-has_run-via-then-has_run+else-eq y ↦ struck_past v.1 l.auto.replies p (search rules)
              | else-has_run-via-else-has_run y ↦ struck_other v.1 l.auto.replies p d y.if-has_run.false
            ],
          )
    ]

pub returns : goal.returns
returns c = struck_all c.loop-r.invariant.1 c.loop-r.auto.replies (omega arith)
