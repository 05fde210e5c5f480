use native.Mathlib.Omega.{arith}
use borrow.Author.Rules.{rules}
use Rattle.terms.specs.Numbers.{end_at}
use Rattle.terms.proofs.Skipped.{skip_leaf, skip_node, skip_all, skip_end, ends}
use Rattle.terms.proofs.term.end_of.Goals as goal
use Rattle.terms.proofs.term.end_of.Goals.{then-s-i-lt-ADD, else-s-i-lt-ADD}

pub loop-i-init : goal.loop-i-init
unfolding end_at
loop-i-init c = search rules

pub returns-then-need-eq0 : goal.returns-then-need-eq0
returns-then-need-eq0 c = ends (search (skip_all, rules))

pub loop-i-preserved : goal.loop-i-preserved
loop-i-preserved c = elim c.if-s-i-lt-ADD.branch [
  | then-s-i-lt-ADD w ↦ rw w.need-is (search (skip_leaf, rules))
  | else-s-i-lt-ADD w ↦ rw w.need-is (search (skip_node, rules))
]

pub returns : goal.returns
returns c = ends (skip_end c.args.s.now c.args.at _ _ _ c.loop-i.invariant.1 (omega arith) (search rules) c.max.ensures)
