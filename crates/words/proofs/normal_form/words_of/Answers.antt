-- `words_of` writes the words of the slots that were filled.
use Rattle.std.proofs.Common.{arith}
use Rattle.words.proofs.BoundedWords.{multiplied, words_written}
use Rattle.words.proofs.normal_form.words_of.Goals as goal

pub returns : goal.returns
returns c =
    words_written
    (multiplied (omega arith) (omega arith) c.multiply_out-n.ensures)
    c.spell_sorted.ensures
