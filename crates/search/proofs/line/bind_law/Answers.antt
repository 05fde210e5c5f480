-- `bind_law` meets its contract.
use Rattle.search.proofs.Trying.{binds_law}
use Rattle.search.proofs.line.bind_law.Goals as goal

pub returns : goal.returns
returns c = binds_law _ _ _ _ _ _ _ c.sides.ensures.replaced c.sides.ensures.put_in c.bind_side.ensures
