-- `number_line` meets its contract.
use Rattle.std.proofs.Common.{arith}
use Rattle.text.specs.Bytes.{ascii}
use Rattle.catalogue.proofs.Reading.{no_number, number_out, number_there}
use Rattle.catalogue.proofs.read.number_line.Goals as goal

pub returns-in_err-n : goal.returns-in_err-n
unfolding ascii
returns-in_err-n c = rw c.from_residual.ensures (no_number _ c.in_err-n.ensures)

pub returns-then-not-contains : goal.returns-then-not-contains
unfolding ascii
returns-then-not-contains c = number_out _ c.in_ok-n.ensures (λ low high. grind arith)

pub returns : goal.returns
unfolding ascii
returns c = number_there _ c.in_ok-n.ensures (grind arith) (grind arith)
