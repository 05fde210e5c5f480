-- `put_sides` meets its contract: one side, and then the sides of a part.
use Rattle.text.proofs.Writing.{put_as}
use Rattle.text.proofs.StepTexts.{sides_end, sides_more}
use Rattle.text.proofs.step.+put_sides.Goals as goal

pub returns-in_default : goal.returns-in_default
returns-in_default t c = sides_end c.side_at.ensures c.args.w.now c.in_default.is

pub returns-in-Some : goal.returns-in-Some
returns-in-Some t c = sides_more c.side_at.ensures c.in-Some.side c.in-Some.part c.in-Some.is (put_as c.letter_of.ensures c.put_byte.ensures) c.put_sides.ensures
