-- `hold_slot` meets its contract.
use Rattle.search.proofs.Holding.{holds_run}
use Rattle.search.proofs.slots.hold_slot.Goals as goal

pub returns : goal.returns
returns c = rw c.hash.ensures (holds_run c.requires c.write_slot.ensures)
