-- `in_order` meets its contract by that of `compare`.
use Rattle.std.proofs.Common.{◌∙◌}
use Rattle.words.proofs.Merging.{slots_compared}
use Rattle.words.proofs.sort.in_order.Goals as goal

pub returns : goal.returns
returns c = c.is_le.ensures ∙ slots_compared c.args.words.now c.args.x c.args.y c.word_of.ensures c.word_of-2.ensures c.compare.ensures
