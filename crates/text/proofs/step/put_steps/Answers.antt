-- `put_steps` meets its contract.
use Rattle.text.proofs.Walks.{steps_start, steps_more, steps_all}
use Rattle.text.proofs.step.put_steps.Goals as goal

pub loop-k-init : goal.loop-k-init
loop-k-init c = steps_start c.args.lines.ws.now c.args.lines.path.now c.args.w.now

pub loop-k-preserved : goal.loop-k-preserved
loop-k-preserved c = steps_more c.loop-k.k-index c.loop-k-test.true c.loop-k.invariant c.put_step.ensures

pub returns : goal.returns
returns c = steps_all c.loop-k.k-index c.loop-k-test.false c.loop-k.invariant
