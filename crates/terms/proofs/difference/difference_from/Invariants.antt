-- `difference_from` meets its contract. The loop's invariant: the first `i` numbers agree.
use Rattle.terms.specs.Differ.{Agree}
use Rattle.terms.proofs.difference.difference_from.Given as goal

abbrev pub invariant-loop-i : goal.invariant-loop-i
invariant-loop-i l = Agree l.a l.b l.i
