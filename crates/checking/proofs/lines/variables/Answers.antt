use Rattle.checking.proofs.Lent.{fits_first, fits_on}
use Rattle.checking.proofs.Lettering.{sides_too_many, sides_few, all_gathered, foul_result, no_room, gathered_on}
use Rattle.checking.proofs.lines.variables.Goals as goal

pub returns-in_err-count-clause-names : goal.returns-in_err-count-clause-names
returns-in_err-count-clause-names c = rw c.from_residual.ensures (sides_too_many c.in_err-count.ensures)

pub loop-step-init : goal.loop-step-init
loop-step-init c =
    let gives = c.into_iter-step-iterator.ensures.into_iter_gives in
    (tt, tt, rw gives (fits_first c.args.reader.now c.args.steps.text.now), rw gives (sides_few c.in_ok-count.ensures))

pub returns-in_err-read-clause-names : goal.returns-in_err-read-clause-names
returns-in_err-read-clause-names c = rw c.from_residual-in_err-read.ensures (foul_result c.loop-step.invariant.3 c.in-Some.ensures.steps c.in_err-read.ensures.run)

pub returns-in_err-count-2-clause-names : goal.returns-in_err-count-2-clause-names
returns-in_err-count-2-clause-names c =
    rw c.from_residual-in_err-count-2.ensures (no_room c.loop-step.invariant.3 c.in-Some.ensures.steps c.in_ok-read.ensures.run _ c.in_err-count-2.ensures)

pub loop-step-preserved : goal.loop-step-preserved
loop-step-preserved c = (tt, tt, fits_on c.loop-step.invariant.2 c.in-Some.ensures.steps _ c.read.follows.holds-at-none, gathered_on c.loop-step.invariant.3 c.in-Some.ensures.steps c.in_ok-read.ensures.run c.in_ok-count-2.ensures)

pub returns-clause-names : goal.returns-clause-names
returns-clause-names c = all_gathered c.loop-step.invariant.3 c.in-None.ensures.steps.0
