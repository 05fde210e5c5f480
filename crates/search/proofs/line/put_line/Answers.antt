-- `put_line` meets its contract.
use Rattle.search.proofs.Trying.{tries_put}
use Rattle.search.proofs.line.put_line.Goals as goal

pub returns : goal.returns
returns c = tries_put _ _ _ _ _ _ _ _ _ _ c.sides.ensures.put_in c.requires.1 c.end_of-end.ensures c.splice.ensures
