-- The value stays below eight digits.
use Rattle.std.proofs.Common.{◌≤◌}
use Rattle.replay.proofs.record.number.Given as goal

abbrev pub invariant-loop-i : goal.invariant-loop-i
invariant-loop-i l = l.value ≤ 9999999
