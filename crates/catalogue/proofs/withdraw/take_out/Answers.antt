-- `take_out` meets its contract.
use Rattle.std.proofs.Common.{inl, inr, arith}
use Rattle.catalogue.specs.Stored.{COUNT}
use Rattle.catalogue.proofs.Counting.{taken_counted}
use Rattle.catalogue.proofs.withdraw.take_out.Goals.{then-shared, else-shared}
use Rattle.catalogue.proofs.withdraw.take_out.Goals as goal

pub returns : goal.returns
returns c =
    taken_counted c.told-catalogue c.start.ensures.within c.if-shared.set_count
    (λ key left right K l r.
    elim c.if-shared.branch [
      | then-shared w ↦ inl (w.if-shared.ensures key left right K l r, w.set_count-is)
      | else-shared w ↦ inr (w.if-shared.ensures key left right K l r, λ p. omega (arith, c.fits-catalogue COUNT))
    ]) (rw c.start.ensures.is at c.set_count.ensures)
