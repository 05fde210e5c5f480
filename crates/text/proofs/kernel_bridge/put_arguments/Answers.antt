-- `put_arguments` meets its contract.
use native.Mathlib.Omega.{arith}
use Rattle.text.proofs.Applied.{argues_none, argues_more, argues_all}
use Rattle.text.proofs.kernel_bridge.put_arguments.Goals as goal

pub loop-v-init : goal.loop-v-init
loop-v-init c = let a = c.args in argues_none a.run.now a.names.now a.z a.w.now

pub loop-v-preserved : goal.loop-v-preserved
loop-v-preserved c = let a = c.args in argues_more a.run.now a.names.now a.z c.loop-v.v-index c.loop-v-test.true c.loop-v.invariant c.put_argument.ensures

pub returns : goal.returns
returns c = let a = c.args in argues_all a.run.now a.names.now a.z c.loop-v.v-index (omega (arith, c.loop-v-test.false, c.loop-v.auto.v-index-end)) c.loop-v.invariant
