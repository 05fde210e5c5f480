-- `pair_end` meets its contract. The loop's invariant: so far the words begin with the two letters.
use Rattle.words.specs.Rank.{Paired}
use Rattle.words.proofs.candidate.rank.pair_end.Given as goal

abbrev pub invariant-loop-k : goal.invariant-loop-k
invariant-loop-k l = Paired l.words l.x l.y l.i l.k
