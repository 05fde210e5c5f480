-- `bind_side` meets its contract: p does not match, a letter of q is not known, or each is.
use Rattle.search.proofs.Rewriting.{side_unbound, side_missing, side_bound}
use Rattle.search.proofs.Knowing.{binds_all}
use borrow.Author.Rules.{rules}
use Rattle.search.proofs.line.bind_side.Goals as goal

pub returns-in-Bound : goal.returns-in-Bound
returns-in-Bound c = search (side_bound, binds_all, rules)

pub returns-in_default : goal.returns-in_default
returns-in_default c = search (side_missing, binds_all, rules)

pub returns-in_default-2 : goal.returns-in_default-2
returns-in_default-2 c = search (side_unbound, rules)
