-- `read_results` meets its contract: the results passed are terms, all small or one large, so that what is left decides.
use Rattle.checking.proofs.Results.{ReadTo}
use Rattle.checking.proofs.Lent.{Fits}
use Rattle.checking.proofs.lines.read_results.Given as goal

abbrev pub invariant-loop-step : goal.invariant-loop-step
invariant-loop-step l =
    goal.iterator-loop-step.can_next l.step-iterator
    × goal.iterator-loop-step.is_finite l.step-iterator
    × Fits l.fn.reader l.reader l.steps.text.now l.step-iterator.text.now
    × ReadTo l.steps.text.now l.step-iterator.text.now l.read
