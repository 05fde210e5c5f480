-- The lines with the totals are put.
use Rattle.std.proofs.Common.{◌∙◌, ap}
use Rattle.std.proofs.Math.Path.{refl, sym}
use Rattle.text.specs.Bytes.{ascii, number}
use Rattle.text.specs.Answer.{field}
use Rattle.text.proofs.Writing.{put_as, then}
use Rattle.weigh.specs.Answering.{totals_text}
use Rattle.weigh.proofs.answer.TotalsText.put.Goals as goal

pub returns-in-Some : goal.returns-in-Some
unfolding field ascii
returns-in-Some c =
    λ t h.
    put_as (sym (h ∙ ap (totals_text c.args.self.now.total) c.in-Some.is))
    (then (c.line.ensures (number c.args.self.now.total) refl) (c.line-in-Some.ensures (number c.in-Some.atleast) refl))

pub returns-in_default : goal.returns-in_default
unfolding field ascii
returns-in_default c =
    λ t h. put_as (sym (h ∙ ap (totals_text c.args.self.now.total) c.in_default.is)) (c.line.ensures (number c.args.self.now.total) refl)
