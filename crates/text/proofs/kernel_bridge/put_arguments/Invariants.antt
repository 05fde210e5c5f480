-- The invariant: the arguments of the letters before the index are put.
use Rattle.text.proofs.Applied.{Argues}
use Rattle.text.proofs.kernel_bridge.put_arguments.Given as goal

abbrev pub invariant-loop-v : goal.invariant-loop-v
invariant-loop-v l = Argues l.run l.names l.fn.z l.v-index l.initial.w l.w
