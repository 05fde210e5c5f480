use Rattle.std.proofs.Common.{arith}
use Rattle.words.proofs.Merging.{next_is, first_left, second_left, merge_first, merge_second}
use Rattle.words.proofs.sort.merge.Goals as goal
use Rattle.words.proofs.sort.merge.Goals.{then-takes_first, else-takes_first}

pub bounds-a-i : goal.bounds-a-i
bounds-a-i c =
    let l = c.loop-k in
    first_left _ _ _ l.invariant (next_is _ _ _ l.i l.j c.takes_first.ensures c.if-takes_first.true)

pub bounds-b-j : goal.bounds-b-j
bounds-b-j c =
    let l = c.loop-k in
    second_left _ _ _ l.invariant (omega arith) (next_is _ _ _ l.i l.j c.takes_first.ensures c.if-takes_first.false)

pub loop-k-preserved : goal.loop-k-preserved
loop-k-preserved c =
    let l = c.loop-k in
    elim c.if-takes_first.branch [
      | then-takes_first w ↦ rw (w.out-is, w.i-is, w.j-is) (merge_first _ _ _ l.invariant (omega arith) (next_is _ _ _ l.i l.j c.takes_first.ensures w.if-takes_first.true))
      | else-takes_first w ↦ rw (w.out-is, w.i-is, w.j-is) (merge_second _ _ _ l.invariant (omega arith) (next_is _ _ _ l.i l.j c.takes_first.ensures w.if-takes_first.false))
    ]
