-- `put_gap` meets its contract.
use Rattle.text.proofs.Items.{put_no_gap, put_some_gap}
use Rattle.text.proofs.writer.Writer.put_gap.Goals as goal

pub returns-then-i-gt0 : goal.returns-then-i-gt0
returns-then-i-gt0 c = put_some_gap c.args.s c.args.i c.if-i-gt0.true c.put_byte.ensures

pub returns-else-i-gt0 : goal.returns-else-i-gt0
returns-else-i-gt0 c = put_no_gap c.args.s c.args.i c.args.self.now c.if-i-gt0.false
