use Rattle.checking.proofs.Placing.{follow_starts, follow_ends, follow_dot, follow_side, follow_nowhere}
use Rattle.checking.proofs.place.position_of.Goals.{then-b-ne46+in_ok-at, else-b-ne46}
use Rattle.checking.proofs.place.position_of.Goals as goal

pub loop-b-init : goal.loop-b-init
loop-b-init c = follow_starts c.args.place.now c.args.run.now

pub returns-in_err-at : goal.returns-in_err-at
returns-in_err-at c =
    rw c.from_residual.ensures (follow_nowhere c.loop-b.invariant c.loop-b-test.true c.if-b-ne46.true (rw c.side_in.ensures at c.in_err-at.ensures))

pub loop-b-preserved : goal.loop-b-preserved
loop-b-preserved c =
    elim c.if-b-ne46.branch [
      | then-b-ne46+in_ok-at w ↦
          rw w.at-is (follow_side c.loop-b.invariant c.loop-b-test.true w.if-b-ne46.true _ (rw w.side_in.ensures at w.in_ok-at.ensures))
      | else-b-ne46 w ↦ rw w.at-is (follow_dot c.loop-b.invariant c.loop-b-test.true w.if-b-ne46.false)
    ]

pub returns : goal.returns
returns c = follow_ends c.loop-b.invariant c.loop-b-test.false
