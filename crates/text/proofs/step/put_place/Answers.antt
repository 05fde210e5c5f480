-- `put_place` meets its contract: `.` for the root, and elsewhere the sides.
use Rattle.text.proofs.StepTexts.{put_root, put_below}
use Rattle.text.proofs.step.put_place.Goals as goal

pub returns-then-place-eq0 : goal.returns-then-place-eq0
returns-then-place-eq0 c = λ t h k. put_root t c.args.place c.if-place-eq0.true c.put_byte.ensures

pub returns-else-place-eq0 : goal.returns-else-place-eq0
returns-else-place-eq0 c = λ t h k. put_below t c.args.place c.if-place-eq0.false h k c.put_sides.ensures
