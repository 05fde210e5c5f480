-- `equal` meets its contract.
use Rattle.terms.proofs.Compared.{equals_none}
use Rattle.terms.proofs.term.equal.Goals as goal

pub returns : goal.returns
returns c = equals_none c.difference_by_fours.result c.difference_by_fours.ensures c.is_none.ensures
