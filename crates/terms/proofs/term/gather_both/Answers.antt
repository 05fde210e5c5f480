-- `gather_both` meets its contract: the numbers of the second run are put among those of the first.
use borrow.Author.Rules.{rules}
use Rattle.terms.proofs.Gathered.{lists_none, lists_all}
use Rattle.terms.proofs.term.gather_both.Goals as goal

pub returns-in_err-n : goal.returns-in_err-n
returns-in_err-n c = rw c.from_residual.ensures (lists_none _ _ _ _ _ c.gather.result c.gather.ensures c.in_err-n.was)

pub returns : goal.returns
returns c = search (lists_all, rules)
