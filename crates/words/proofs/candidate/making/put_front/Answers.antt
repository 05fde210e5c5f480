-- `put_front` copies the run.
use Rattle.words.proofs.Kept.{front_copied}
use Rattle.words.proofs.candidate.making.put_front.Goals as goal

pub returns : goal.returns
returns c = front_copied _ _ _ c.overwrite.ensures
