-- `sides` meets its contract.
use Rattle.search.proofs.Rows.{read_forward, read_back}
use borrow.Author.Rules.{rules}
use Rattle.search.proofs.search.sides.Goals as goal

pub returns-in-Forward : goal.returns-in-Forward
returns-in-Forward c = search (read_forward, rules)

pub returns-in-Back : goal.returns-in-Back
returns-in-Back c = search (read_back, rules)
