-- `side_at` meets its contract: the left part ends where `end_of` says.
use Rattle.search.proofs.Turning.{turn_here, turn_left, turn_right}
use borrow.Author.Rules.{rules}
use Rattle.search.proofs.path.side_at.Goals as goal

pub returns-then-at-from : goal.returns-then-at-from
returns-then-at-from c = search (turn_here, rules)

pub returns-then-at-right : goal.returns-then-at-right
returns-then-at-right c = search (turn_left, rules)

pub returns-else-at-right : goal.returns-else-at-right
returns-else-at-right c = search (turn_right, rules)
