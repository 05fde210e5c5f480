-- `gather` meets its contract. The loop's invariant: what was gathered fills the front, and the letters from a number on make it the whole.
use Rattle.terms.proofs.Gathered.{Gathering}
use Rattle.terms.proofs.term.gather.Given as goal

abbrev pub invariant-loop-x : goal.invariant-loop-x
invariant-loop-x l = Gathering l.below l.s l.initial.out l.n l.out l.count l.x-index
