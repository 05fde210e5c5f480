use Rattle.std.proofs.Common.{rules}
use Rattle.replay.proofs.Filling.{filled_more, filled_whole}
use Rattle.replay.proofs.dirt.fill.Goals as goal

pub loop-slot-preserved : goal.loop-slot-preserved
loop-slot-preserved g c = search (filled_more, rules)

pub returns : goal.returns
returns g c = search (filled_whole, rules)
