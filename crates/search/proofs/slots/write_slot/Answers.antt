-- `write_slot` meets its contract: the law `writes` takes its stores together.
use Rattle.std.proofs.Common.{refl}
use Rattle.search.proofs.Writing.{writes}
use Rattle.search.proofs.slots.write_slot.Goals as goal

pub returns : goal.returns
returns c =
    let a = c.args in
    rw c.overwrite.ensures (writes a.ws.now _ _ a.k a.run.numbers.now a.o a.value c.requires a.run.fits c.write_origin.ensures refl)
