-- `find` meets its contract. The loop's invariant: no slot from `end` on has the run, and of the others slot `k` is the newest in the run's bucket.
use Prim.Native.Nat.{◌≤◌}
use Rattle.search.proofs.Looking.{Passed, Leading}
use Rattle.search.proofs.slots.Runs.find.Given as goal

abbrev pub invariant-loop-k : goal.invariant-loop-k
invariant-loop-k l = (l.end ≤ l.self.count) × Passed l.self.slots.now l.self.count l.s l.end × Leading l.self.slots.now l.self.count l.s l.end l.k

abbrev pub decreases-loop-k : goal.decreases-loop-k
decreases-loop-k l = l.end
