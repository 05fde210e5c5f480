-- `answer` meets its contract: the verdict, and the answer where there is room.
use Rattle.std.proofs.Common.{refl}
use Rattle.checking.proofs.Answering.{check_given, twelve}
use Rattle.checking.proofs.entry.answer.Goals as goal

pub returns-clause-call : goal.returns-clause-call
returns-clause-call c = check_given c.args.text.now c.args.output.now c.in_ok-judge.ensures c.answered.result (c.answered.ensures _ refl)

pub returns-clause-length : goal.returns-clause-length
returns-clause-length c = twelve c.args.output.now c.answered.result _ (c.answered.ensures _ refl)
