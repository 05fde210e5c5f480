use Rattle.std.proofs.Common.{arith, sym, ◌∙◌}
use Rattle.weigh.proofs.Gathering.{gathers_none, gathers_passes, gathers_takes, gathers_all}
use Rattle.weigh.proofs.gather.gather.Goals as goal
use Rattle.weigh.proofs.gather.gather.Goals.{then-value_of-total, else-value_of-total}

pub loop-k-init : goal.loop-k-init
loop-k-init c = let a = c.args in gathers_none a.ws.now a.noted a.total a.most a.order.now

pub insert-count-requires : goal.insert-count-requires
insert-count-requires c = omega (arith, c.loop-k.invariant.few, c.loop-k.auto.order)

pub loop-k-preserved : goal.loop-k-preserved
loop-k-preserved c =
    let a = c.args in
    let l = c.loop-k in
    elim c.if-value_of-total.branch [
      | then-value_of-total w ↦ rw (w.order-is, w.count-is)
          (gathers_takes a.ws.now a.noted a.total a.most l.order l.count l.k l.invariant c.loop-k-test.true (sym c.value_of.ensures ∙ w.if-value_of-total.true) _ _ w.insert-count.ensures)
      | else-value_of-total w ↦ rw (w.order-is, w.count-is)
          (gathers_passes a.ws.now a.noted a.total a.most l.order l.count l.k l.invariant c.loop-k-test.true (λ e. w.if-value_of-total.false (c.value_of.ensures ∙ e)))
    ]

pub returns : goal.returns
returns c =
    let a = c.args in
    let l = c.loop-k in
    gathers_all a.ws.now a.noted a.total a.most l.order l.count l.k l.invariant (omega (arith, l.auto.order)) (omega (arith, l.auto.k-end, c.loop-k-test.false))
