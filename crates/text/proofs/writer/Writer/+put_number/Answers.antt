-- `put_number` meets its contract: the last digit behind the number of the others.
use Rattle.text.proofs.Decimal.{put_small, put_more_digits}
use Rattle.text.proofs.writer.Writer.+put_number.Goals.{then-n-ge10, else-n-ge10}
use Rattle.text.proofs.writer.Writer.+put_number.Goals as goal

pub returns : goal.returns
returns t c = elim c.if-n-ge10.branch [
  | then-n-ge10 w ↦ put_more_digits c.args.n w.if-n-ge10.true (rw (w.self-is) w.put_number.ensures) c.put_byte.ensures
  | else-n-ge10 w ↦ put_small c.args.n w.if-n-ge10.false (rw (← w.self-is) c.put_byte.ensures)
]
