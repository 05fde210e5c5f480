use Rattle.search.proofs.Tracing.{tracing_starts, path_too_long, tracing_stuck, tracing_back, tracing_ends}
use borrow.Author.Rules.{rules}
use Rattle.search.proofs.path.path_of.Goals as goal

pub returns-then-path-count : goal.returns-then-path-count
returns-then-path-count c = search (path_too_long, rules)

pub loop-at-init : goal.loop-at-init
loop-at-init c = search (tracing_starts, rules)

pub returns-in_default : goal.returns-in_default
returns-in_default c = search (tracing_stuck, rules)

pub loop-at-preserved : goal.loop-at-preserved
loop-at-preserved c = search (tracing_back, rules)

pub returns : goal.returns
returns c = search (tracing_ends, rules)
