-- `store` copies the runs.
use Rattle.words.proofs.Kept.{stored}
use Rattle.words.proofs.candidate.making.Equation.store.Goals as goal

pub returns-clause-stored : goal.returns-clause-stored
returns-clause-stored c = stored c.put_front.ensures c.put_front-2.ensures
