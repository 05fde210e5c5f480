-- `merge` meets its contract. The loop's invariant: what stands before `k` is what merging the first `i` and `j` gives.
use Rattle.words.proofs.Merging.{MergedTo}
use Rattle.words.proofs.sort.merge.Given as goal

abbrev pub invariant-loop-k : goal.invariant-loop-k
invariant-loop-k l = MergedTo l.words l.a l.b l.i l.j l.k l.out
