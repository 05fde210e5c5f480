-- The measure is what is left of the run.
use Rattle.std.proofs.Common.{◌-◌, length}
use Rattle.words.proofs.normal_form.+expand_at.Given as goal

abbrev pub decreases-expand_at : goal.decreases-expand_at
decreases-expand_at l = length l.run.now - l.at
