-- The output is due if from here on it is.
use Rattle.std.proofs.Common.{◌≡◌, ◌-◌, length, drop, ◌↔◌}
use Rattle.replay.specs.Dirt.{due}
use Rattle.replay.proofs.dirt.is_due.Given as goal

abbrev pub invariant-loop-i : goal.invariant-loop-i
invariant-loop-i l =
    (l.output ≡ due l.text l.initial.filled (length l.output))
    ↔ (drop l.i l.output ≡ due (drop l.i l.text) l.filled (length l.output - l.i))
