-- `contains` meets its contract: the slot, or none, as a test.
use Rattle.search.proofs.Looking.{found}
use Rattle.search.proofs.slots.Runs.contains.Goals as goal

pub returns : goal.returns
returns c = rw c.is_some.ensures (found c.find.result c.find.ensures)
