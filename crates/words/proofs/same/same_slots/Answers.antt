-- `same_slots` meets its contract: by the words at one place, or by all.
use Rattle.std.proofs.Common.{sym, ◌∙◌, arith}
use Rattle.words.proofs.Listing.{alike_next, word_apart, equal_words}
use Rattle.words.proofs.same.same_slots.Goals as goal

pub returns-then-not-equal : goal.returns-then-not-equal
returns-then-not-equal c =
    let a = c.args in
    let n = rw c.if-not-equal.true at (equal_words c.equal.ensures) in
    word_apart a.u.now a.a.now a.v.now a.b.now c.if-a-b.false c.loop-i.i (omega arith) (λ e. n (c.word_of.ensures ∙ e ∙ sym c.word_of-in-loop-i.ensures))

pub loop-i-preserved : goal.loop-i-preserved
loop-i-preserved c =
    let a = c.args in
    let e = rw c.if-not-equal.false at (equal_words c.equal.ensures) in
    alike_next a.u.now a.a.now a.v.now a.b.now c.if-a-b.false c.loop-i.i (omega arith) c.loop-i.invariant (sym c.word_of.ensures ∙ e ∙ c.word_of-in-loop-i.ensures)
