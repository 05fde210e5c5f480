-- `line` meets its contract: the key, the value and the line's end are put one after the other.
use Rattle.text.proofs.Writing.{then}
use Rattle.text.proofs.writer.Writer.line.Goals as goal

pub returns : goal.returns
returns g c = λ t h. then c.put_bytes.ensures (then (c.put.ensures t h) c.put_byte.ensures)
