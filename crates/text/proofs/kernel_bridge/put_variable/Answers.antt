-- `put_variable` meets its contract.
use Rattle.text.specs.Bytes.{ascii}
use Rattle.text.specs.Proof.{variable}
use Rattle.text.proofs.Writing.{then}
use Rattle.text.proofs.kernel_bridge.put_variable.Goals as goal

pub returns : goal.returns
unfolding variable ascii
returns c = then c.put_byte.ensures c.put_number.ensures
