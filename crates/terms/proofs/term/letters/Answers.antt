use borrow.Author.Rules.{rules}
use Rattle.terms.proofs.Gathered.{lists_letters}
use Rattle.terms.proofs.term.letters.Goals as goal

pub returns : goal.returns
returns c = search (lists_letters, rules)
