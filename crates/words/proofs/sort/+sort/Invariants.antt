-- The measure is the length of the order.
use Rattle.std.proofs.Common.{length}
use Rattle.words.proofs.sort.+sort.Given as goal

abbrev pub decreases-sort : goal.decreases-sort
decreases-sort l = length l.order.now
