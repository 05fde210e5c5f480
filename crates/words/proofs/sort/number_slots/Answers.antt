use Rattle.words.proofs.Numbered.{number_start, number_next}
use Rattle.std.proofs.Common.{rules}
use Rattle.words.proofs.sort.number_slots.Goals as goal

pub loop-i-init : goal.loop-i-init
loop-i-init c = number_start c.args.order.now

pub loop-i-preserved : goal.loop-i-preserved
loop-i-preserved c = search (number_next, rules)
