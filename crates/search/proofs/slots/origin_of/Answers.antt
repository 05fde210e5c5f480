-- `origin_of` meets its contract: no noted term stands past the end of the slots.
use Rattle.std.proofs.Common.{rules}
use Rattle.search.proofs.Tracing.{origin_missed}
use Rattle.search.proofs.slots.origin_of.Goals as goal

pub returns-then-ws-at : goal.returns-then-ws-at
returns-then-ws-at c = search (origin_missed, rules)
