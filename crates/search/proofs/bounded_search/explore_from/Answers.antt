-- `explore_from` meets its contract: a law for each way out.
use Rattle.std.proofs.Common.{rules}
use Rattle.search.proofs.Answering.{begins_none, begins_long, begins_small, begins_large}
use Rattle.search.proofs.bounded_search.explore_from.Goals as goal

pub returns-then-slots-eq0 : goal.returns-then-slots-eq0
returns-then-slots-eq0 c = search (begins_none, rules)

pub returns-in_default : goal.returns-in_default
returns-in_default c = begins_long c.in_default.ensures

pub returns-then-limits-le-SMALL : goal.returns-then-limits-le-SMALL
returns-then-limits-le-SMALL c = search (begins_small, rules)

pub returns-else-left-le-SMALL : goal.returns-else-left-le-SMALL
returns-else-left-le-SMALL c = search (begins_large, rules)
