use Rattle.replay.proofs.Counting.{rows_at}
use Rattle.replay.proofs.tally.Tally.new.Goals as goal

pub returns : goal.returns
returns c = rows_at 9 17
