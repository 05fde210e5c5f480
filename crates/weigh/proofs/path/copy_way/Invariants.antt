-- `copy_way` meets its contract. The loop's invariant: the terms before the `i`-th slot of the way stand in `out`, one after the other.
use Rattle.std.specs.Prelude.{◌≡◌, length}
use Rattle.weigh.proofs.Copying.{Copying}
use Rattle.weigh.proofs.path.copy_way.Given as goal

abbrev pub invariant-loop-i : goal.invariant-loop-i
invariant-loop-i l = (length l.out ≡ length l.initial.out) × Copying l.ws l.way l.i l.out
