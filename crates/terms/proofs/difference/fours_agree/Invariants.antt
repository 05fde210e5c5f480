-- `fours_agree` meets its contract. The loop's invariant: the numbers of the first `i` groups agree.
use Prim.Native.Nat.{◌*◌}
use Rattle.terms.specs.Differ.{Agree}
use Rattle.terms.proofs.difference.fours_agree.Given as goal

abbrev pub invariant-loop-i : goal.invariant-loop-i
invariant-loop-i l = Agree l.a l.b (4 * l.i)
