use Rattle.std.proofs.Common.{arith, rules}
use Rattle.terms.proofs.Inserted.{put_next, put_end}
use Rattle.terms.proofs.term.shift.Goals as goal

pub loop-i-preserved : goal.loop-i-preserved
loop-i-preserved c = search (put_next, rules)

pub returns : goal.returns
returns c = put_end _ _ _ _ c.loop-i.invariant (omega arith)
