-- `with` meets its contract.
use Rattle.search.specs.Span.{with_span}
use Rattle.search.proofs.Spans.{first_if, second_if}
use borrow.Author.Rules.{rules}
use Rattle.search.proofs.search.Spans.with.Goals as goal

pub returns-in-0 : goal.returns-in-0
unfolding with_span
returns-in-0 c = search (first_if, second_if, rules)

pub returns-in-1 : goal.returns-in-1
unfolding with_span
returns-in-1 c = search (first_if, second_if, rules)

pub returns-in_default : goal.returns-in_default
unfolding with_span
returns-in_default c = search (first_if, second_if, rules)
