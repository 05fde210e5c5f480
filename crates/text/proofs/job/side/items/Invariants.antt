-- `items` meets its contract: the items passed are read, and what is left of the side goes behind them.
use Rattle.std.proofs.Common.{length}
use Rattle.text.proofs.Sides.{Reached}
use Rattle.text.proofs.job.side.items.Given as goal

abbrev pub invariant-loop-text : goal.invariant-loop-text
invariant-loop-text l = Reached l.side l.rest l.run l.n

abbrev pub decreases-loop-text : goal.decreases-loop-text
decreases-loop-text l = length l.rest
