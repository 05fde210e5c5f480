use Rattle.std.proofs.Common.{rules}
use Rattle.replay.proofs.Looking.{same_from}
use Rattle.replay.proofs.dirt.is_same_from.Goals as goal

pub returns : goal.returns
returns c = search (same_from, rules)
