-- `put_lists` meets its contract.
use Rattle.std.proofs.Common.{inl, inr, ⊎_elim, ap, length, arith}
use Rattle.catalogue.proofs.Calling.{lists_long}
use Rattle.catalogue.proofs.put.put_lists.Goals as goal

pub returns-then-left-gt-ROOM : goal.returns-then-left-gt-ROOM
returns-then-left-gt-ROOM c =
    let a = c.args in
    lists_long a.catalogue.now a.place a.n a.key (rw (ap (λ m. m.room) c.new-lists.ensures.empty) at c.lists_of.ensures.made) (omega arith)
    (⊎_elim (λ l. inl (omega (arith, ap length c.left-left.ensures.is))) (λ l. inr (omega (arith, l.1, ap length c.right-right.ensures.is)))
    c.then-left-gt-ROOM.either)
