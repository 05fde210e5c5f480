use native.Mathlib.Omega.{arith}
use Rattle.terms.proofs.Compared.{differ_here, both_ended, one_ended}
use Rattle.terms.proofs.difference.difference_from.Goals as goal

pub returns-then-a-i : goal.returns-then-a-i
returns-then-a-i c = differ_here _ _ c.loop-i.i c.loop-i.invariant (omega arith) (omega arith) c.if-a-i.true

pub returns-then-a-b : goal.returns-then-a-b
returns-then-a-b c = both_ended _ _ c.loop-i.i c.loop-i.invariant c.min-both.result c.min-both.ensures (omega arith) c.if-a-b.true

pub returns : goal.returns
returns c = one_ended _ _ c.loop-i.i c.loop-i.invariant c.min-both.result c.min-both.ensures (omega arith) c.if-a-b.false
