use Rattle.std.proofs.Common.{arith, rules}
use Rattle.words.proofs.Spelling.{no_room, letter_next, word_end}
use Rattle.words.proofs.sort.spell_word.Goals as goal

pub returns-then-out-n : goal.returns-then-out-n
returns-then-out-n c = search (no_room, rules)

pub loop-i-preserved : goal.loop-i-preserved
loop-i-preserved c = search (letter_next, rules)

pub returns : goal.returns
returns c =
    let a = c.args in
    let l = c.loop-i in
    word_end a.word.now a.out.now l.i l.out (omega arith) (omega arith) l.invariant (omega arith)
