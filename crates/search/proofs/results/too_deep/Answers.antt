-- `too_deep` meets its contract: a short run is not walked.
use Rattle.search.proofs.Resulting.{flat}
use borrow.Author.Rules.{rules}
use Rattle.search.proofs.results.too_deep.Goals as goal

pub returns-else-limit-s : goal.returns-else-limit-s
returns-else-limit-s c = search (flat, rules)
