-- `leads` meets its contract: what the lines left lead to, all lead to.
use Rattle.checking.proofs.Leading.{LeadsTo}
use Rattle.checking.proofs.Lent.{Fits}
use Rattle.checking.proofs.chain.leads.Given as goal

abbrev pub invariant-loop-step : goal.invariant-loop-step
invariant-loop-step l =
    goal.iterator-loop-step.can_next l.step-iterator
    × goal.iterator-loop-step.is_finite l.step-iterator
    × Fits l.fn.reader l.reader l.steps.text.now l.step-iterator.text.now
    × LeadsTo l.fn.left l.right l.steps.text.now l.step-iterator.text.now l.term
