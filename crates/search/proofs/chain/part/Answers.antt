-- `part` meets its contract.
use Rattle.search.proofs.Using.{no_part, atom_no_part, left_part, right_part}
use borrow.Author.Rules.{rules}
use Rattle.search.proofs.chain.part.Goals.{then-s-at-via-then-s-at, then-s-at-via-else-s-at+then-s-at-lt-ADD}
use Rattle.search.proofs.chain.part.Goals as goal

pub returns-then-s-at : goal.returns-then-s-at
returns-then-s-at c = elim c.then-s-at.branch [
  | then-s-at-via-then-s-at w ↦ search (no_part, rules)
  | then-s-at-via-else-s-at+then-s-at-lt-ADD w ↦ search (atom_no_part, rules)
]

pub returns-in-Left : goal.returns-in-Left
returns-in-Left c = search (left_part, rules)

pub returns-in-Right : goal.returns-in-Right
returns-in-Right c = search (right_part, rules)
