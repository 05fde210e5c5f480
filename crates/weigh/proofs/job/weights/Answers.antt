use Rattle.weigh.proofs.ReadWeights.{too_few, foul_number, last_malformed, last_number}
use Rattle.weigh.proofs.job.weights.Goals as goal

pub returns-in_err-first : goal.returns-in_err-first
returns-in_err-first c = rw c.from_residual.ensures (too_few c.loop-k.invariant c.in_err-first.ensures c.loop-k-test.true)

pub returns-in_err-weights : goal.returns-in_err-weights
returns-in_err-weights c =
    rw c.from_residual-in_err-weights.ensures (foul_number c.loop-k.invariant c.in_ok-first.ensures c.in_err-weights.ensures)

pub returns-in_err-weights-2 : goal.returns-in_err-weights-2
returns-in_err-weights-2 c =
    rw c.from_residual-in_err-weights-2.ensures (last_malformed c.loop-k.invariant c.loop-k-test.false c.loop-k.auto.k-end c.in_err-weights-2.ensures)

pub returns : goal.returns
returns c = last_number c.loop-k.invariant c.loop-k-test.false c.loop-k.auto.k-end c.in_ok-weights-2.ensures
