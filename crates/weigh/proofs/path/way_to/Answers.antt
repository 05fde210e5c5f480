-- `way_to` meets its contract.
use Rattle.std.proofs.Common.{rules, arith, ◌-◌}
use Rattle.std.proofs.Math.Path.{refl, ◌∙◌}
use lib.ListN.{length-set}
use Rattle.weigh.proofs.Copying.{reaching_starts, reaching_back, way_too_long, way_ends}
use Rattle.weigh.proofs.path.way_to.Goals as goal

pub loop-step-init : goal.loop-step-init
loop-step-init c = (omega arith, refl, reaching_starts c.args.ws.now c.args.last c.args.path.now)

pub returns-then-at-eq0 : goal.returns-then-at-eq0
returns-then-at-eq0 c =
    way_too_long c.args.ws.now c.args.last c.loop-step.k c.loop-step.at _ c.origin_of.ensures c.loop-step.path c.loop-step.invariant.2 c.in-From.step
    (search rules) (search rules)

pub loop-step-preserved : goal.loop-step-preserved
loop-step-preserved c =
    let l = c.loop-step in (
      omega (arith, length-set l.path (l.at - 1) l.k, l.invariant.0),
      length-set l.path (l.at - 1) l.k ∙ l.invariant.1,
      reaching_back c.args.ws.now c.args.last l.k l.at _ c.origin_of.ensures l.path l.invariant.2 c.in-From.step (search rules) (omega (arith, c.if-at-eq0.false)) l.invariant.0,
    )

pub returns : goal.returns
returns c =
    let l = c.loop-step in
    way_ends c.args.ws.now c.args.last l.k l.at _ c.origin_of.ensures l.path l.invariant.2 (search rules) l.invariant.0
