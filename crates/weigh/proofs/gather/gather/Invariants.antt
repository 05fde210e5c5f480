-- `gather` meets its contract. The loop's invariant: of the slots before, those with the total are put in.
use Rattle.weigh.proofs.Gathering.{Gathered}
use Rattle.weigh.proofs.gather.gather.Given as goal

abbrev pub invariant-loop-k : goal.invariant-loop-k
invariant-loop-k l = Gathered l.ws l.noted l.total l.most l.order l.count l.k
