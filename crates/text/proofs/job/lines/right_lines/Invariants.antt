-- `right_lines` meets its contract: each line counted is one value more, up to a line without the key.
use Rattle.std.proofs.Common.{length}
use Rattle.text.proofs.RightLines.{Midway}
use Rattle.text.proofs.job.lines.right_lines.Given as goal

abbrev pub invariant-loop-more : goal.invariant-loop-more
invariant-loop-more l = Midway l.s l.count l.rest

abbrev pub decreases-loop-more : goal.decreases-loop-more
decreases-loop-more l = length l.rest
