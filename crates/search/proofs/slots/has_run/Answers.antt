-- `has_run` meets its contract.
use borrow.Author.Tests.{ne_eqb}
use Rattle.search.proofs.Hashing.{compared, hash_differs}
use Rattle.search.proofs.slots.has_run.Goals as goal

pub returns-then-ws-k : goal.returns-then-ws-k
returns-then-ws-k c = compared c.run_of.ensures c.equal.ensures

pub returns-else-ws-k : goal.returns-else-ws-k
returns-else-ws-k c = rw (ne_eqb _ _ c.if-ws-k.false) (hash_differs c.if-ws-k.false)
