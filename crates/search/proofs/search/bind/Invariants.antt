-- `bind` meets its contract. The loop's invariant: the patterns from the next one on, matched in turn with the terms from `i` on, give what
-- the whole match gives.
use Prim.Native.Nat.{◌≤◌}
use lib.ListN.{length}
use Rattle.search.specs.Span.{Within, Matching}
use Rattle.search.proofs.Matching.{Pending}
use Rattle.search.proofs.search.bind.Given as goal

abbrev pub invariant-loop-x : goal.invariant-loop-x
invariant-loop-x l = (l.i ≤ length l.s) × Within (length l.s) l.bound × Matching l.p l.s l.at l.initial.bound (Pending l.p l.x-index l.s l.i l.bound)
