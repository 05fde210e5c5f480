-- `note_start` meets its contract: a slot written and linked is the first noted term.
use Rattle.search.proofs.Noting.{starts}
use Rattle.search.proofs.slots.note_start.Goals as goal

pub returns : goal.returns
returns c = starts c.note_slot.ensures
