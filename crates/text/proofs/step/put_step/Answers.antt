-- `put_step` meets its contract: a slot tells its line.
use Rattle.std.proofs.Common.{refl}
use Rattle.text.specs.Bytes.{ascii}
use Rattle.text.specs.Answer.{field}
use Rattle.text.specs.StepText.{step_value}
use Rattle.text.specs.Find.{step}
use Rattle.text.proofs.Walks.{one_step}
use Rattle.text.proofs.step.put_step.Goals as goal

pub returns-in-From : goal.returns-in-From
unfolding step field ascii
returns-in-From c =
    one_step c.in-From.step c.origin_of.ensures c.in-From.is c.run_of.ensures c.run_of-in-From.ensures
    (λ t x p m q. c.line.ensures (step_value x) (t, x, p, m, q, refl))
