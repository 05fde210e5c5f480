-- `factorial` reads its table.
use Rattle.words.proofs.Decoded.{factorial_listed}
use Rattle.words.proofs.candidate.factorial.Goals as goal

pub returns : goal.returns
returns c = factorial_listed c.args.k c.requires
