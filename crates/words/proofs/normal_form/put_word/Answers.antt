-- `put_word` meets its contract: the stores leave the word in its slot.
use Rattle.std.proofs.Common.{arith}
use Rattle.words.proofs.Puts.{puts_one}
use Rattle.words.proofs.normal_form.put_word.Goals as goal

pub returns : goal.returns
returns c =
    let a = c.args in
    puts_one a.words.now a.k a.a.now a.b.now c.copy.new.out c.copy-2.new.out c.copy.ensures c.copy-2.ensures (omega arith) (omega arith) (omega arith)
