use Rattle.std.proofs.Common.{◌≡◌, ◌+◌, arith, rules}
use Rattle.words.proofs.Joined.{row_none, row_next, row_done}
use Rattle.words.proofs.normal_form.join_row.Goals as goal

pub loop-i-init : goal.loop-i-init
loop-i-init c = rw c.into_iter-i-iterator.ensures.into_iter_gives (search (row_none, rules))

pub loop-i-preserved : goal.loop-i-preserved
loop-i-preserved c =
    let p = c.in-Some.ensures.steps in
    let l = c.loop-i in
    let e : c.in-Some.i ≡ l.i-iterator.start = omega (arith, p) in
    let s : c.next.new.self.start ≡ l.i-iterator.start + 1 = omega (arith, p) in
    (omega (arith, p), omega (arith, p), λ h. omega (arith, p), rw s (row_next l.invariant.3 (rw e at c.word_of.ensures) c.put_word-next.ensures l.invariant.1))

pub returns : goal.returns
returns c =
    let p = c.in-None.ensures.steps in
    let l = c.loop-i.invariant in
    row_done l.3 _ (omega (arith, p)) l.2
