-- The whole proof meets its contract: the path inside the binders.
use mathlib.Core.Path.{sym}
use Rattle.text.proofs.Writing.{put_as}
use Rattle.text.proofs.Joining.{proof_put}
use Rattle.text.proofs.kernel_bridge.lambdas.ProofText.put.Goals as goal

pub returns : goal.returns
returns c = λ t h. put_as (sym h.5) (proof_put h.0 h.1 h.2 h.4 c.open_lambdas.ensures (c.render_path.ensures h.0 h.2 h.3) c.close_lambdas.ensures)
