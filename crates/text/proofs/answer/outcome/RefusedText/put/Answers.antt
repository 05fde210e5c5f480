-- A refusal meets its contract.
use mathlib.Core.Path.{refl, sym}
use Rattle.text.specs.Bytes.{ascii}
use Rattle.text.specs.Bytes.{number}
use Rattle.text.specs.Answer.{field, printed}
use Rattle.text.proofs.Writing.{then, put_as}
use Rattle.text.proofs.answer.outcome.RefusedText.put.Goals as goal

pub returns : goal.returns
unfolding printed field ascii
returns c = λ t e. put_as (sym e) (then (c.line.ensures (ascii "refused") refl) (c.line-2.ensures (number c.args.self.now.0) refl))
