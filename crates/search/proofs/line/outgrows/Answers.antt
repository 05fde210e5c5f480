-- `outgrows` meets its contract.
use Rattle.search.proofs.Firsts.{outgrown_near}
use borrow.Author.Rules.{rules}
use Rattle.search.proofs.line.outgrows.Goals as goal

pub returns-then-first_of-lt-LETTERS : goal.returns-then-first_of-lt-LETTERS
returns-then-first_of-lt-LETTERS c = search (outgrown_near, rules)
