-- `note` meets its contract: a slot written and linked is one more noted term.
use Rattle.search.proofs.Noting.{notes}
use Rattle.search.proofs.slots.note.Goals as goal

pub returns : goal.returns
returns c = notes c.note_slot.ensures
