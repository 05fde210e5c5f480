-- The invariant: the applications of the letters before the index are put.
use Rattle.text.proofs.Applied.{Applies}
use Rattle.text.proofs.kernel_bridge.put_applications.Given as goal

abbrev pub invariant-loop-v : goal.invariant-loop-v
invariant-loop-v l = Applies l.fn.z l.v-index l.initial.w l.w
