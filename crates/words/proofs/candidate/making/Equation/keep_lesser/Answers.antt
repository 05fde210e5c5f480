-- `keep_lesser` compares the equation so far with the two runs, smaller first, and keeps the lesser.
use Rattle.std.proofs.Common.{◌∙◌, sym}
use Rattle.words.proofs.Kept.{in_order, stays, replaced}
use Rattle.words.proofs.candidate.making.Equation.keep_lesser.Goals as goal

pub returns-then-is_gt-clause-kept : goal.returns-then-is_gt-clause-kept
returns-then-is_gt-clause-kept o c =
    replaced (in_order c.args.x c.args.y c.in_order.ensures) c.compare_equations.result (rw (c.left.ensures.is, c.right.ensures.is) at c.compare_equations.ensures)
    (sym c.is_gt.ensures ∙ c.if-is_gt.true) c.store.ensures.stored

pub returns-else-is_gt-clause-kept : goal.returns-else-is_gt-clause-kept
returns-else-is_gt-clause-kept o c =
    stays (in_order c.args.x c.args.y c.in_order.ensures) c.compare_equations.result (rw (c.left.ensures.is, c.right.ensures.is) at c.compare_equations.ensures)
    (sym c.is_gt.ensures ∙ c.if-is_gt.false)
