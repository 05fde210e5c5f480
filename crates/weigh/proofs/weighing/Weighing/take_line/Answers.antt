-- `take_line` meets its contract: there is no line, or its result is too deep, or it is noted.
use borrow.Author.Rules.{rules}
use Rattle.weigh.proofs.Lines.{takes_nothing, takes_too_deep, takes_noted}
use Rattle.weigh.proofs.weighing.Weighing.take_line.Goals as goal

pub returns-in_default : goal.returns-in_default
returns-in_default c = search (takes_nothing, rules)

pub returns-then-too_deep : goal.returns-then-too_deep
returns-then-too_deep c = search (takes_too_deep, rules)

pub returns : goal.returns
returns c = search (takes_noted, rules)
