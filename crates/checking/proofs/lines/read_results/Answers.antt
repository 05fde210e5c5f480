use Rattle.text.specs.declared.refusal.Refusal.TheVariants.{NoTerm}
use Rattle.text.proofs.Refused.{refused_by}
use Rattle.checking.proofs.Lent.{fits_first, fits_on}
use Rattle.checking.proofs.Results.{at_first, all_read, foul_result, small_result, large_result}
use Rattle.checking.proofs.lines.read_results.Goals as goal

pub loop-step-init : goal.loop-step-init
loop-step-init c =
    let gives = c.into_iter-step-iterator.ensures.into_iter_gives in
    (tt, tt, rw gives (fits_first c.args.reader.now c.args.steps.text.now), rw gives (at_first c.args.steps.text.now))

pub returns-in_err-run-clause-results : goal.returns-in_err-run-clause-results
returns-in_err-run-clause-results c =
    let q = refused_by c.read.result NoTerm c.from_residual.result c.from_residual.ensures.1 c.in_err-run.ensures.value in
    rw q.1 (foul_result c.loop-step.invariant.3 c.in-Some.ensures.steps (rw q.0 at c.read.ensures.run))

pub loop-step-preserved-then-run-gt-LARGEST : goal.loop-step-preserved-then-run-gt-LARGEST
loop-step-preserved-then-run-gt-LARGEST c = (
  tt,
  tt,
  fits_on c.loop-step.invariant.2 c.in-Some.ensures.steps _ c.read.follows.holds-at-none,
  large_result c.loop-step.invariant.3 c.in-Some.ensures.steps (rw c.in_ok-run.ensures.ok_part at c.read.ensures.run) c.if-run-gt-LARGEST.true,
)

pub loop-step-preserved : goal.loop-step-preserved
loop-step-preserved c = (
  tt,
  tt,
  fits_on c.loop-step.invariant.2 c.in-Some.ensures.steps _ c.read.follows.holds-at-none,
  small_result c.loop-step.invariant.3 c.in-Some.ensures.steps (rw c.in_ok-run.ensures.ok_part at c.read.ensures.run) c.if-run-gt-LARGEST.false,
)

pub returns-clause-results : goal.returns-clause-results
returns-clause-results c = all_read c.loop-step.invariant.3 c.in-None.ensures.steps.0
