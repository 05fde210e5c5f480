-- `put_next_letter` meets its contract.
use Rattle.std.proofs.Common.{rules}
use native.Mathlib.Omega.{arith}
use Rattle.text.proofs.Overlay.{put_as}
use Rattle.text.proofs.Writing.{then}
use Rattle.text.proofs.Items.{digit_letter}
use Rattle.text.proofs.put.put_next_letter.Goals as goal

pub returns-then-n-lt10 : goal.returns-then-n-lt10
returns-then-n-lt10 c =
    put_as (digit_letter 32 c.args.i c.args.n c.if-i-gt0.true c.if-n-lt10.true)
    (record { next = omega (arith, c.saturating_add.ensures); bytes = c.store_three.ensures; room = omega arith })

pub returns : goal.returns
returns c =
    let p = then c.put_gap.ensures c.put_letter.ensures in
    let s = p.same in
    let q = p.put in
    search rules
