-- The answer meets its contract: one line.
use Rattle.std.proofs.Common.{sym, refl}
use Rattle.text.specs.Bytes.{ascii}
use Rattle.text.specs.Answer.{field, yes_no}
use Rattle.text.specs.Words.{same_text}
use Rattle.text.proofs.Writing.{put_as}
use Rattle.text.proofs.answer.same.SameText.put.Goals as goal

pub returns : goal.returns
unfolding ascii same_text field
returns c = λ t e. put_as (sym e) (c.line.ensures (yes_no c.args.self.now.same) refl)
