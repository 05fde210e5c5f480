-- `insert` meets its contract.
use native.Mathlib.Omega.{arith}
use mathlib.Core.Path.{sym, ◌∙◌}
use Rattle.weigh.proofs.Inserting.{inserts_last, inserts_none, inserts_behind, inserts_one}
use Rattle.weigh.proofs.gather.insert.Goals as goal

pub returns-then-is_le : goal.returns-then-is_le
returns-then-is_le c =
    let a = c.args in
    inserts_last a.ws.now a.k a.most a.order.now a.count (omega arith) (omega arith) c.run_of-run.result.now c.run_of-run.ensures c.if-count-gt0.true c.if-count-most.true
    c.run_of-last.result.now c.run_of-last.ensures c.compare.result c.compare.ensures (sym c.is_le.ensures ∙ c.if-is_le.true)

pub returns-in_default : goal.returns-in_default
returns-in_default c =
    let a = c.args in
    inserts_none a.ws.now a.k a.most a.order.now a.count (omega arith) (omega arith) c.run_of-run.result.now c.run_of-run.ensures c.spot_of.result c.spot_of.ensures c.in_default.is

pub returns-then-place-end : goal.returns-then-place-end
returns-then-place-end c =
    let a = c.args in
    inserts_one a.ws.now a.k a.most a.order.now a.count (omega arith) (omega arith) c.run_of-run.result.now c.run_of-run.ensures c.spot_of.result c.spot_of.ensures
    c.in-Some.place c.in-Some.is c.min-end.result c.min-end.ensures c.if-place-end.true c.shift.new.s c.shift.ensures c.shift.auto.s

pub returns-else-place-end : goal.returns-else-place-end
returns-else-place-end c =
    let a = c.args in
    inserts_behind a.ws.now a.k a.most a.order.now a.count (omega arith) (omega arith) c.run_of-run.result.now c.run_of-run.ensures c.spot_of.result c.spot_of.ensures
    c.in-Some.place c.in-Some.is c.min-end.result c.min-end.ensures c.if-place-end.false
