-- `canonical_terms` renames the v letters that both sides have.
use borrow.Author.Rules.{rules}
use Rattle.words.proofs.Canonical.{all_listed}
use Rattle.words.proofs.candidate.canonical_terms.Goals as goal

pub returns-in-Some-clause-found : goal.returns-in-Some-clause-found
returns-in-Some-clause-found c = search (all_listed, rules)
