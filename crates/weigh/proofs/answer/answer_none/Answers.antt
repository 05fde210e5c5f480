-- `answer_none` meets its contract.
use Rattle.std.proofs.Math.Path.{refl}
use Rattle.weigh.proofs.answer.answer_none.Goals as goal

pub returns : goal.returns
returns c = λ j n sides. c.answered.ensures _ (j, n, sides, refl)
