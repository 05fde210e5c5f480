-- `merge_parts` meets its contract: the parts are in order already or the other way round, or what is merged are the parts of a copy of the order.
use Rattle.std.proofs.Common.{◌-◌, ◌∙◌, sym, ap, length, take_at, arith}
use Rattle.words.proofs.Merging.{next_slots}
use Rattle.words.proofs.Sorting.{parts_in_order, parts_reversed}
use Rattle.words.proofs.sort.merge_parts.Goals as goal

pub returns-then-in_order : goal.returns-then-in_order
returns-then-in_order c =
    let a = c.args in
    let order = a.order.now in
    parts_in_order a.words.now order a.mid c.requires.2
    (next_slots a.words.now order order (a.mid - 1) a.mid (omega arith) (omega arith) ∙ sym c.in_order.ensures ∙ c.if-in_order.true)

pub returns-then-in_order-2 : goal.returns-then-in_order-2
returns-then-in_order-2 c =
    let a = c.args in
    parts_reversed a.words.now a.order.now a.mid (omega arith) _ _ _
    (take_at c.overwrite.new.out _ (length a.order.now) (ap length c.overwrite.ensures) ∙ c.overwrite.ensures)
    c.in_order-2.ensures
    c.if-in_order-2.true
    c.overwrite-then-in_order-2.ensures
    c.overwrite-then-in_order-2-2.ensures
