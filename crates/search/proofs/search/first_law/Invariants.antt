-- `first_law` meets its contract. The loop's invariant: none of the laws before the next one matches.
use Rattle.search.proofs.Directing.{Passing}
use Rattle.search.proofs.search.first_law.Given as goal

abbrev pub invariant-loop-law : goal.invariant-loop-law
invariant-loop-law l = Passing l.pair.both.now l.pair.middle l.law-index
