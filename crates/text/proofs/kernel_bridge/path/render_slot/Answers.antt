-- `render_slot` meets its contract: the line by the step in slot k, from the term in the slot that it names.
use Rattle.text.proofs.Joining.{step_put}
use Rattle.text.proofs.kernel_bridge.path.render_slot.Goals as goal

pub returns-in-From : goal.returns-in-From
returns-in-From c =
    λ ns j x S L.
    step_put S L c.args.names.now c.in-From.step c.origin_of.ensures c.in-From.is c.run_of.ensures c.run_of-in-From.ensures c.render_step.ensures
