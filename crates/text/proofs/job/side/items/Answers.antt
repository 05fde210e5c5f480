use Rattle.std.proofs.Common.{arith}
use Rattle.text.proofs.Sides.{last_item}
use Rattle.text.proofs.job.side.items.Goals as goal

pub returns : goal.returns
returns c =
    let l = c.loop-text in
    last_item c.args.side.now l.rest.now l.run l.n l.invariant c.in_default.ensures _ c.in_ok-run-2.ensures (omega arith)
