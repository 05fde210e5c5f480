-- `close_lambdas` meets its contract. The invariant: the ends of the binders so far are put.
use Rattle.text.specs.Framed.{closes}
use Rattle.text.specs.Writer.{Writes}
use Rattle.text.proofs.kernel_bridge.lambdas.close_lambdas.Given as goal

abbrev pub invariant-loop : goal.invariant-loop
invariant-loop l = Writes (closes l.counter) l.initial.w l.w
