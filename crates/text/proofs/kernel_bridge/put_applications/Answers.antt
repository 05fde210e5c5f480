-- `put_applications` meets its contract.
use native.Mathlib.Omega.{arith}
use Rattle.text.specs.Bytes.{ascii}
use Rattle.text.proofs.Applied.{applies_none, applies_more, applies_same, applies_all}
use Rattle.text.proofs.kernel_bridge.put_applications.Goals.{then-v-ne0, else-v-ne0}
use Rattle.text.proofs.kernel_bridge.put_applications.Goals as goal

pub loop-v-init : goal.loop-v-init
loop-v-init c = applies_none c.args.z c.args.w.now

pub loop-v-preserved : goal.loop-v-preserved
unfolding ascii
loop-v-preserved c = elim c.if-v-ne0.branch [
  | then-v-ne0 w ↦ rw w.w-is (applies_more c.args.z c.loop-v.v-index c.loop-v-test.true c.loop-v.invariant w.if-v-ne0.true w.put_bytes.ensures)
  | else-v-ne0 w ↦ rw w.w-is (applies_same c.args.z c.loop-v.v-index c.loop-v-test.true c.loop-v.invariant w.if-v-ne0.false)
]

pub returns : goal.returns
returns c = applies_all c.args.z c.loop-v.v-index (omega (arith, c.loop-v-test.false, c.loop-v.auto.v-index-end)) c.loop-v.invariant
