-- `keep_line` meets its contract: there is no line, or its result is too deep, or it is kept.
use Rattle.search.proofs.Resulting.{adds_nothing, adds_too_deep, adds_kept}
use borrow.Author.Rules.{rules}
use Rattle.search.proofs.results.Results.keep_line.Goals as goal

pub returns-in_default-clause-added : goal.returns-in_default-clause-added
returns-in_default-clause-added c = search (adds_nothing, rules)

pub returns-then-not-too_deep-clause-added : goal.returns-then-not-too_deep-clause-added
returns-then-not-too_deep-clause-added c = search (adds_kept, rules)

pub returns-else-not-too_deep-clause-added : goal.returns-else-not-too_deep-clause-added
returns-else-not-too_deep-clause-added c = search (adds_too_deep, rules)
