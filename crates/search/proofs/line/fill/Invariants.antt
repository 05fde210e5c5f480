-- `fill` meets its contract. The loop's invariant: what stands after the first `n` numbers is the side so far, with its letters' parts put in.
use Prim.Native.Nat.{◌≤◌}
use lib.ListN.{length}
use Rattle.search.proofs.Filling.{Filling}
use Rattle.search.proofs.line.fill.Given as goal

abbrev pub invariant-loop-x : goal.invariant-loop-x
invariant-loop-x l = (l.n ≤ l.m) × (l.m ≤ length l.out) × Filling l.q l.s l.z l.initial.out l.n l.out l.m l.x-index
