use borrow.Author.Rules.{rules}
use Rattle.terms.proofs.Gathered.{lists_variables}
use Rattle.terms.proofs.term.variables.Goals as goal

pub returns : goal.returns
returns c = search (lists_variables, rules)
