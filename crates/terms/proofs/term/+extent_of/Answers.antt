-- `extent_of` meets its contract: the extent of a sum or product is put together from those of its parts.
use Rattle.std.proofs.Common.{rules}
use Rattle.terms.proofs.Depths.{extends_past, extends_atom, extends_node}
use Rattle.terms.proofs.term.+extent_of.Goals as goal

pub returns-then-s-at : goal.returns-then-s-at
returns-then-s-at t c = search (extends_past, rules)

pub returns-then-s-at-lt-ADD : goal.returns-then-s-at-lt-ADD
returns-then-s-at-lt-ADD t c = search (extends_atom, rules)

pub returns : goal.returns
returns t c = search (extends_node, rules)
