-- `oriented` meets its contract: the sides are exchanged where the first is the greater.
use Rattle.std.proofs.Common.{sym, ◌∙◌}
use Rattle.weigh.proofs.Accepting.{exchanged, left_alone}
use Rattle.weigh.proofs.job.oriented.Goals as goal

pub returns-then-is_gt : goal.returns-then-is_gt
returns-then-is_gt c = exchanged (rw (c.numbers.ensures.is, c.numbers-2.ensures.is) at c.compare.ensures) (sym c.is_gt.ensures ∙ c.if-is_gt.true)

pub returns-else-is_gt : goal.returns-else-is_gt
returns-else-is_gt c = left_alone (rw (c.numbers.ensures.is, c.numbers-2.ensures.is) at c.compare.ensures) (sym c.is_gt.ensures ∙ c.if-is_gt.false)
