use Rattle.std.proofs.Common.{refl}
use Rattle.text.specs.Answer.{field}
use Rattle.text.specs.Bytes.{ascii}
use Rattle.checking.specs.Check.{good}
use Rattle.checking.proofs.entry.GoodText.put.Goals as goal

pub returns : goal.returns
unfolding good field ascii
returns c = λ t e. rw e (c.line.ensures _ refl)
