-- `weights` meets its contract: the numbers passed are read, and the others are what is left.
use Rattle.weigh.proofs.ReadWeights.{ReadTo}
use Rattle.weigh.proofs.job.weights.Given as goal

abbrev pub invariant-loop-k : goal.invariant-loop-k
invariant-loop-k l = ReadTo l.text l.rest l.weights l.k
