-- Each call leaves less of the list.
use Rattle.std.proofs.Common.{◌≤◌, length}
use Rattle.replay.proofs.Replay.replay_part.Given as goal

abbrev pub invariant-loop-rest : goal.invariant-loop-rest
invariant-loop-rest l = length l.rest ≤ length l.list

abbrev pub decreases-loop-rest : goal.decreases-loop-rest
decreases-loop-rest l = length l.rest
