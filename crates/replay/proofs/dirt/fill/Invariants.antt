-- What is filled in, and behind it the dirt from the next one on, is the dirt.
use Rattle.std.proofs.Common.{◌≡◌, ◌-◌, ◌++◌, length, take}
use Rattle.replay.specs.Dirt.{dirt}
use Rattle.replay.proofs.dirt.fill.Given as goal

abbrev pub invariant-loop-slot : goal.invariant-loop-slot
invariant-loop-slot g l =
    let following = g.T.Dirty.following in
    take l.slot-index l.buffer ++ dirt following l.next (length l.initial.buffer - l.slot-index) ≡ dirt following l.initial.next (length l.initial.buffer)
