-- `open_lambdas` meets its contract. The invariant: the binders before i are put.
use Rattle.text.specs.Framed.{opens}
use Rattle.text.specs.Writer.{Writes}
use Rattle.text.proofs.kernel_bridge.lambdas.open_lambdas.Given as goal

abbrev pub invariant-loop-i : goal.invariant-loop-i
invariant-loop-i l = Writes (opens l.i) l.initial.w l.w
