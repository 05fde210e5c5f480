-- The uses of laws meet their contract.
use Rattle.std.proofs.Common.{arith, refl, sym}
use Rattle.search.specs.Coded.{numbered_law}
use Rattle.text.proofs.step.UsesText.put.Goals.{then-uses_law, else-uses_law}
use Rattle.text.proofs.Writing.{put_as}
use Rattle.text.proofs.Walks.{uses_start, uses_skip, uses_more, uses_all}
use Rattle.text.proofs.step.UsesText.put.Goals as goal

pub loop-law-init : goal.loop-law-init
loop-law-init c = let l = c.args.self.now.0 in (omega arith, uses_start l.ws.now l.path.now c.args.w.now)

pub loop-law-preserved : goal.loop-law-preserved
loop-law-preserved c =
    let i = c.loop-law.law-index in
    let h = c.loop-law-test.true in
    let law = numbered_law i in
    elim c.if-uses_law.branch [
      | then-uses_law w ↦
          let p = uses_more i h law refl c.loop-law.invariant.1 c.uses_law.ensures w.if-uses_law.true w.put_gap.ensures (put_as w.law_name.ensures w.put_bytes.ensures) in
          rw (w.w-is, w.count-is) (omega arith, p)
      | else-uses_law w ↦ rw (w.w-is, w.count-is) (omega arith, uses_skip i h law refl c.loop-law.invariant.1 c.uses_law.ensures w.if-uses_law.false)
    ]

pub returns : goal.returns
returns c = λ t h. put_as (sym h.3) (uses_all c.loop-law.law-index c.loop-law.count c.loop-law-test.false c.loop-law.invariant.1 h.0 h.1 h.2)
