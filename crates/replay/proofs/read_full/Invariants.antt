-- What is read is in the buffer.
use Rattle.std.proofs.Common.{◌≤◌, length}
use Rattle.replay.proofs.read_full.Given as goal

abbrev pub invariant-loop : goal.invariant-loop
invariant-loop g l = l.done ≤ length l.buffer
