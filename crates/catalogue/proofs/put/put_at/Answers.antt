-- `put_at` meets its contract.
use Rattle.std.proofs.Common.{inl, inr, arith}
use Rattle.catalogue.proofs.Counting.{put_counted}
use Rattle.catalogue.proofs.put.put_at.Goals.{then-known, else-known}
use Rattle.catalogue.proofs.put.put_at.Goals as goal

pub returns-clause-stored : goal.returns-clause-stored
returns-clause-stored c =
    let a = c.args in
    put_counted c.told-catalogue c.store.ensures.within a.kind.left_fits a.kind.right_fits c.store.ensures.stored c.if-known.set_count
    (elim c.if-known.branch [
      | then-known w ↦ inl (w.if-known.ensures, w.set_count-is)
      | else-known w ↦ inr (w.if-known.ensures, λ l. omega arith)
    ]) c.set_count.ensures
