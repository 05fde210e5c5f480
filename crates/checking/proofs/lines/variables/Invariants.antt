-- `variables` meets its contract: the v letters of the results passed are among the names, so that what is left decides.
use Rattle.std.proofs.Common.{length}
use Rattle.checking.proofs.Lettering.{VariablesTo}
use Rattle.checking.proofs.Lent.{Fits}
use Rattle.checking.proofs.lines.variables.Given as goal

abbrev pub invariant-loop-step : goal.invariant-loop-step
invariant-loop-step l =
    goal.iterator-loop-step.can_next l.step-iterator
    × goal.iterator-loop-step.is_finite l.step-iterator
    × Fits l.fn.reader l.reader l.steps.text.now l.step-iterator.text.now
    × VariablesTo l.sides.left.now l.sides.right.now l.steps.text.now (length l.fn.names) l.step-iterator.text.now l.names l.count
