-- `put_steps` meets its contract. The invariant: the lines before the index are put.
use Rattle.text.proofs.Walks.{PutsSteps}
use Rattle.text.proofs.step.put_steps.Given as goal

abbrev pub invariant-loop-k : goal.invariant-loop-k
invariant-loop-k l = PutsSteps l.lines.ws.now l.lines.path.now l.k-index l.initial.w l.w
