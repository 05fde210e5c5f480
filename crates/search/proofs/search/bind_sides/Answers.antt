-- `bind_sides` meets its contract.
use Rattle.search.proofs.Directing.{sides_unbound, sides_bound}
use borrow.Author.Rules.{rules}
use Rattle.search.proofs.search.bind_sides.Goals as goal

pub returns-in_default : goal.returns-in_default
returns-in_default c = search (sides_unbound, rules)

pub returns : goal.returns
returns c = search (sides_bound, rules)
