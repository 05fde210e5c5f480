-- `note_total` meets its contract.
use Rattle.std.proofs.Common.{arith}
use Rattle.weigh.proofs.Noting.{total_full, total_new, total_still, total_lower}
use Rattle.weigh.proofs.opened.note_total.Goals as goal

pub returns-then-slots-noted : goal.returns-then-slots-noted
returns-then-slots-noted c = total_full c.in_default.ensures c.if-slots-noted.true

pub returns-in_default : goal.returns-in_default
returns-in_default c = total_new c.in_default.ensures c.if-slots-noted.false c.note_slot.ensures

pub returns-then-total-value_of : goal.returns-then-total-value_of
returns-then-total-value_of c = total_lower c.in-Some.ensures c.requires.0 (omega (arith, c.value_of.ensures)) c.write_origin.ensures

pub returns-else-total-value_of : goal.returns-else-total-value_of
returns-else-total-value_of c = total_still c.in-Some.ensures c.requires.0 (omega (arith, c.value_of.ensures))
