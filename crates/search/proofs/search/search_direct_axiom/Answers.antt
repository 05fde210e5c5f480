-- `search_direct_axiom` meets its contract: the list holds the left run and then the right one.
use Rattle.search.proofs.Directing.{direct_long, direct_long_right, direct_found}
use borrow.Author.Rules.{rules}
use Rattle.search.proofs.search.search_direct_axiom.Goals.{then-left-gt-LARGEST-via-then-left-gt-LARGEST, then-left-gt-LARGEST-via-else-left-gt-LARGEST+then-right-gt-LARGEST}
use Rattle.search.proofs.search.search_direct_axiom.Goals as goal

pub returns-then-left-gt-LARGEST : goal.returns-then-left-gt-LARGEST
returns-then-left-gt-LARGEST c = elim c.then-left-gt-LARGEST.branch [
  | then-left-gt-LARGEST-via-then-left-gt-LARGEST w ↦ search (direct_long, rules)
  | then-left-gt-LARGEST-via-else-left-gt-LARGEST+then-right-gt-LARGEST w ↦ search (direct_long_right, rules)
]

pub returns : goal.returns
returns c = search (direct_found, rules)
