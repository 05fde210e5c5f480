-- `count_atom` meets its contract: 0 has no word, 1 and a letter one.
use Rattle.words.proofs.Counting.{no_words, one_word}
use Rattle.words.proofs.count.count_atom.Goals as goal

pub returns-then-x-eq-ZERO : goal.returns-then-x-eq-ZERO
returns-then-x-eq-ZERO c = no_words c.args.x c.if-x-eq-ZERO.true

pub returns-else-x-eq-ZERO : goal.returns-else-x-eq-ZERO
returns-else-x-eq-ZERO c = one_word c.args.x c.if-x-eq-ZERO.false
