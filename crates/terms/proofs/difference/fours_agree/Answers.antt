use native.Mathlib.Omega.{arith}
use mathlib.Core.Path.{refl}
use Rattle.terms.proofs.Compared.{four_more}
use Rattle.terms.proofs.difference.fours_agree.Goals as goal

pub loop-i-preserved : goal.loop-i-preserved
loop-i-preserved c =
    let s = c.as_chunks.ensures in
    let t = c.as_chunks-2.ensures in
    let h = c.loop-i-test.true in
    four_more c.args.a.now c.args.b.now c.loop-i.i _ _ s.front t.front (omega (arith, h, c.min-both.ensures, s.front_len)) (omega (arith, h, c.min-both.ensures, t.front_len)) c.loop-i.invariant (c.if-not-four_agree.ensures refl)
