-- `note_slot` meets its contract.
use native.Mathlib.Omega.{arith}
use lib.ListN.{length-set}
use Rattle.search.proofs.slots.note_slot.Goals as goal

pub bounds-ws-k-2 : goal.bounds-ws-k-2
bounds-ws-k-2 c = simp length-set (omega (arith, c.write_slot.auto.ws))

pub bounds-ws-b : goal.bounds-ws-b
bounds-ws-b c = simp length-set (omega (arith, c.write_slot.auto.ws, c.bucket_at-b.ensures.1, c.slots_of.ensures))

pub returns : goal.returns
returns c =
    let e = rw (c.slots_of.ensures, c.hash-h.ensures) at c.bucket_at-b.ensures.0 in
    record {
      room = c.requires.0;
      written = c.write_slot.new.ws;
      writes = c.write_slot.ensures;
      older = c.newest-older.result;
      newest = rw e at c.newest-older.ensures;
      links = rw (e, c.hash-h.ensures);
    }
