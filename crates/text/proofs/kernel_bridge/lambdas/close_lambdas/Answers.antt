-- `close_lambdas` meets its contract.
use native.Mathlib.Numerals.{add-one}
use Rattle.text.specs.Bytes.{ascii}
use Rattle.text.specs.Framed.{closes}
use Rattle.text.proofs.Writing.{then, put_none}
use Rattle.text.proofs.kernel_bridge.lambdas.close_lambdas.Goals as goal

pub loop-init : goal.loop-init
unfolding closes
loop-init c = put_none c.args.w.now

pub loop-preserved : goal.loop-preserved
unfolding closes ascii
loop-preserved c = rw add-one (then c.loop.invariant c.put_byte.ensures)
