-- `same_slots` meets its contract. The loop's invariant: the words passed are the same.
use Rattle.words.proofs.Listing.{Alike}
use Rattle.words.proofs.same.same_slots.Given as goal

abbrev pub invariant-loop-i : goal.invariant-loop-i
invariant-loop-i l = Alike l.u l.a l.v l.b l.i
