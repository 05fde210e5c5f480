-- `misses` meets its contract.
use Rattle.search.proofs.Firsts.{missed}
use borrow.Author.Rules.{rules}
use Rattle.search.proofs.line.misses.Goals as goal

pub returns-then-at-s : goal.returns-then-at-s
returns-then-at-s c = search (missed, rules)
