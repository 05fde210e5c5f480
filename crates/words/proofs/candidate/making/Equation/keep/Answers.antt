-- `keep` stores the smaller run on the left and the larger on the right.
use Rattle.words.proofs.Kept.{in_order, kept}
use Rattle.words.proofs.candidate.making.Equation.keep.Goals as goal

pub returns-clause-kept : goal.returns-clause-kept
returns-clause-kept o c = kept (in_order c.args.x c.args.y c.in_order.ensures) c.store.ensures.stored
