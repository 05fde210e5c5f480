-- `orient` meets its contract: the smaller side is left, the other is held in slot 0.
use Rattle.std.proofs.Common.{ap}
use Rattle.std.proofs.lemmas.Option.{MatchOption-at_some}
use Rattle.words.proofs.Kept as words
use Rattle.text.proofs.Accepts.{kept_in_order, smaller_first}
use Rattle.text.proofs.job.accept.orient.Goals as goal

pub returns : goal.returns
returns c =
    let kept = MatchOption-at_some _ _ _ c.unwrap.ensures c.of.ensures in
    let sides = words.kept (smaller_first c.args.a c.run_of-b.result c.smaller.ensures.numbers c.in_order.ensures.numbers) c.store.ensures.stored in
    rw (kept.0, c.left.ensures.is) (kept_in_order c.run_of-b.ensures (rw (ap (λ m. m.room) c.new-sides.ensures.empty) at sides) c.right.ensures.is c.hold_slot.ensures)
