-- `splice` meets its contract.
use Rattle.search.proofs.Splicing.{splice_short, splice_unfilled, splice_filled}
use borrow.Author.Rules.{rules}
use Rattle.search.proofs.line.splice.Goals as goal

pub returns-then-out-at : goal.returns-then-out-at
returns-then-out-at c = search (splice_short, rules)

pub returns-in_err-m : goal.returns-in_err-m
returns-in_err-m c = rw c.from_residual.ensures (splice_unfilled _ _ _ _ _ _ _ _ _ _ c.requires.0 c.requires.1 c.append-n.ensures.0 c.append-n.ensures.1 c.append-n.auto.out c.fill.ensures c.in_err-m.was)

pub returns : goal.returns
returns c = splice_filled _ _ _ _ _ _ _ _ _ _ c.requires.0 c.requires.1 c.append-n.ensures.0 c.append-n.ensures.1 c.append-n.auto.out c.fill.ensures _ c.in_ok-m.was _ _ c.fill.auto.out c.finish.ensures
