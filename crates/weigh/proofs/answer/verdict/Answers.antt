-- `verdict` meets its contract.
use Rattle.std.proofs.Math.Path.{refl}
use Rattle.text.specs.Bytes.{ascii}
use Rattle.weigh.proofs.answer.verdict.Goals as goal

pub returns-in-None : goal.returns-in-None
unfolding ascii
returns-in-None c = rw c.in-None.is refl

pub returns-in-Some : goal.returns-in-Some
unfolding ascii
returns-in-Some c = rw c.in-Some.is refl
