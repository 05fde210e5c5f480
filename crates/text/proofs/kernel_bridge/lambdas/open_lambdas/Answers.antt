-- `open_lambdas` meets its contract: one binder after the other.
use native.Mathlib.Numerals.{add-one}
use Rattle.text.specs.Bytes.{ascii}
use Rattle.text.specs.Framed.{opens}
use Rattle.text.proofs.Writing.{then, put_none}
use Rattle.text.proofs.kernel_bridge.lambdas.open_lambdas.Goals as goal

pub loop-i-init : goal.loop-i-init
unfolding opens
loop-i-init c = put_none c.args.w.now

pub loop-i-preserved : goal.loop-i-preserved
unfolding opens ascii
loop-i-preserved c = rw add-one (then c.loop-i.invariant (then c.put_bytes.ensures (then c.put_variable.ensures c.put_byte.ensures)))
