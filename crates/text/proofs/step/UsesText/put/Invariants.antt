-- The uses meet their contract. The invariant: those of the first laws that the path uses are put, and counted.
use Prim.Native.Nat.{◌≤◌}
use Rattle.text.proofs.Walks.{PutsUses}
use Rattle.text.proofs.step.UsesText.put.Given as goal

abbrev pub invariant-loop-law : goal.invariant-loop-law
invariant-loop-law l = (l.count ≤ l.law-index) × PutsUses l.self.0.ws.now l.self.0.path.now l.law-index l.count l.initial.w l.w
