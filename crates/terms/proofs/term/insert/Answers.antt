use native.Mathlib.Omega.{arith}
use Rattle.terms.proofs.Inserted.{fills_met, fills_many, fills_more}
use Rattle.terms.proofs.term.insert.Goals as goal
use Rattle.terms.proofs.term.insert.Goals.{else-at-end-via-then-at-end+else-out-at, else-at-end-via-else-at-end}

pub returns-then-out-at : goal.returns-then-out-at
returns-then-out-at c = let a = c.args in fills_met a.out.now a.n a.x _ _ c.min-end.ensures c.place_of-at.ensures c.if-at-end.true c.if-out-at.true

pub returns-then-out-end : goal.returns-then-out-end
returns-then-out-end c =
    let a = c.args in
    fills_many a.out.now a.n a.x _ _ c.min-end.ensures c.place_of-at.ensures (elim c.else-at-end.branch [
      | else-at-end-via-then-at-end+else-out-at w ↦ λ h. w.if-out-at.false
      | else-at-end-via-else-at-end w ↦ λ h. absurd (omega (arith, w.if-at-end.false))
    ]) c.if-out-end.true

pub returns : goal.returns
returns c =
    let a = c.args in
    fills_more a.out.now a.n a.x _ _ c.min-end.ensures c.place_of-at.ensures (elim c.else-at-end.branch [
      | else-at-end-via-then-at-end+else-out-at w ↦ λ h. w.if-out-at.false
      | else-at-end-via-else-at-end w ↦ λ h. absurd (omega (arith, w.if-at-end.false))
    ]) c.if-out-end.false _ c.shift.ensures
