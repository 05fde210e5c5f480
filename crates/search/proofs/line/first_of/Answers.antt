-- `first_of` meets its contract.
use Rattle.search.proofs.line.first_of.Goals as goal

pub returns-in-Forward : goal.returns-in-Forward
returns-in-Forward c = rw c.in-Forward.is c.firsts-forward.ensures.0

pub returns-in-Back : goal.returns-in-Back
returns-in-Back c = rw c.in-Back.is c.firsts-forward.ensures.1
