use Rattle.std.proofs.Common.{arith, rules}
use Rattle.terms.proofs.Gathered.{gathering_passes, gathering_takes, gathering_overflows, gathering_ends}
use Rattle.terms.proofs.term.gather.Goals as goal
use Rattle.terms.proofs.term.gather.Goals.{then-x-below+in_ok-count, else-x-below}

pub returns-in_err-count : goal.returns-in_err-count
returns-in_err-count c = search (gathering_overflows, rules)

pub loop-x-preserved : goal.loop-x-preserved
loop-x-preserved c = elim c.if-x-below.branch [
  | then-x-below+in_ok-count w ↦ rw (w.out-is, w.count-is) (gathering_takes _ _ _ _ _ _ _ c.loop-x.invariant (omega arith) w.if-x-below.true _ _ w.insert.ensures _ w.in_ok-count.was)
  | else-x-below w ↦ rw (w.out-is, w.count-is) (search (gathering_passes, rules))
]

pub returns : goal.returns
returns c = search (gathering_ends, rules)
