-- `fits_pair` meets its contract: two sides, one after the other.
use Rattle.search.proofs.Using.{pair_first, pair_second, pair_both}
use borrow.Author.Rules.{rules}
use Rattle.search.proofs.chain.fits_pair.Goals as goal

pub returns-in_default : goal.returns-in_default
returns-in_default c = search (pair_first, rules)

pub returns-in_default-matches : goal.returns-in_default-matches
returns-in_default-matches c = search (pair_second, rules)

pub returns-in-Bound-matches : goal.returns-in-Bound-matches
returns-in-Bound-matches c = search (pair_both, rules)
