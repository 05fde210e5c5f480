use Rattle.std.proofs.Common.{◌≡◌, ◌+◌, arith, rules}
use Rattle.words.proofs.Joined.{join_none, join_next, join_done}
use Rattle.words.proofs.normal_form.join.Goals as goal

pub loop-i-init : goal.loop-i-init
loop-i-init c = rw c.into_iter-i-iterator.ensures.into_iter_gives (search (join_none, rules))

pub loop-i-preserved : goal.loop-i-preserved
loop-i-preserved c =
    let p = c.in-Some.ensures.steps in
    let l = c.loop-i in
    let e : c.in-Some.i ≡ l.i-iterator.start = omega (arith, p) in
    let s : c.next.new.self.start ≡ l.i-iterator.start + 1 = omega (arith, p) in
    (omega (arith, p), omega (arith, p), λ h. omega (arith, p), rw s (join_next l.invariant.3 (rw e at c.word_of.ensures) c.join_row-next.ensures l.invariant.1))

pub returns : goal.returns
returns c =
    let p = c.in-None.ensures.steps in
    let l = c.loop-i.invariant in
    join_done l.3 _ (omega (arith, p)) l.2
