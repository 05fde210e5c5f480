-- `render_law` meets its contract.
use Rattle.text.specs.Proof.{at_place}
use Rattle.text.proofs.kernel_bridge.path.render_law.Goals as goal

pub returns-in-Forward : goal.returns-in-Forward
unfolding at_place
returns-in-Forward c = λ u v h k p q. rw c.in-Forward.is (c.render_axiom_application.ensures u v h k p q)

pub returns-in-Back : goal.returns-in-Back
returns-in-Back c = λ u v h k p q. rw c.in-Back.is (c.render_symmetry.ensures u v h k p q)
