use Rattle.std.proofs.Common.{◌+◌, ◌/◌, length, take, arith}
use Rattle.words.proofs.WordNames.{no_words_gathered, word_gathered, words_overflow}
use Rattle.words.proofs.candidate.words.gather_words.Goals as goal

pub loop-i-init : goal.loop-i-init
loop-i-init c = no_words_gathered _ _ _ c.requires

pub returns-in_err-count : goal.returns-in_err-count
returns-in_err-count c =
    let a = c.args in
    let l = c.loop-i in
    rw c.from_residual.ensures
    (words_overflow a.words.now (take a.n a.out.now) (l.i + 1) (length a.words.now / 17) a.out.now c.gather.new.out (omega arith) (c.in_err-count.was)
    (word_gathered a.words.now a.out.now a.n l.i l.count l.out c.gather.new.out c.gather.result l.invariant c.word_of.ensures c.gather.ensures))

pub loop-i-preserved : goal.loop-i-preserved
loop-i-preserved c =
    let a = c.args in
    let l = c.loop-i in
    rw (c.in_ok-count.was) at
    (word_gathered a.words.now a.out.now a.n l.i l.count l.out c.gather.new.out c.gather.result l.invariant c.word_of.ensures c.gather.ensures)
