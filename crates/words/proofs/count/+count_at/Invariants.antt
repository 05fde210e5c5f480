-- The measure is what is left of the run.
use Rattle.std.proofs.Common.{◌-◌, length}
use Rattle.words.proofs.count.+count_at.Given as goal

abbrev pub decreases-count_at : goal.decreases-count_at
decreases-count_at l = length l.run.now - l.at
