-- `step_in` meets its contract: law, direction, place and result are read one after the other.
use Rattle.std.proofs.Common.{refl, sym, ◌∙◌, arith}
use Rattle.text.specs.Bytes.{ascii}
use Rattle.checking.proofs.StepParts.{behind, not_behind, no_first, no_second, no_third, no_law, no_direction, no_at, no_place, no_to, step_whole}
use Rattle.checking.proofs.line.step_in.Goals as goal

pub returns-in_err-law : goal.returns-in_err-law
returns-in_err-law c = rw c.from_residual.ensures (no_first _ c.in_err-law.ensures)

pub returns-in_err-direction : goal.returns-in_err-direction
returns-in_err-direction c = rw c.from_residual-in_err-direction.ensures (no_second _ c.in_ok-law.ensures c.in_err-direction.ensures)

pub returns-in_err-place : goal.returns-in_err-place
returns-in_err-place c =
    rw c.from_residual-in_err-place.ensures (no_third _ c.in_ok-law.ensures c.in_ok-direction.ensures c.in_err-place.ensures)

pub returns-in_err-law-2 : goal.returns-in_err-law-2
returns-in_err-law-2 c =
    rw c.from_residual-in_err-law-2.ensures (no_law _ c.in_ok-law.ensures c.in_ok-direction.ensures c.in_ok-place.ensures c.in_err-law-2.ensures)

pub returns-in_err-direction-2 : goal.returns-in_err-direction-2
returns-in_err-direction-2 c =
    rw c.from_residual-in_err-direction-2.ensures
    (no_direction _ c.in_ok-law.ensures c.in_ok-direction.ensures c.in_ok-place.ensures c.in_ok-law-2.law c.in_ok-law-2.ensures c.in_err-direction-2.ensures)

pub returns-in_err-place-2 : goal.returns-in_err-place-2
unfolding ascii
returns-in_err-place-2 c =
    rw c.from_residual-in_err-place-2.ensures
    (no_at _ c.in_ok-law.ensures c.in_ok-direction.ensures c.in_ok-place.ensures c.in_ok-law-2.law c.in_ok-law-2.ensures c.in_ok-direction-2.direction c.in_ok-direction-2.ensures
    (not_behind (ascii "at=") _ c.in_err-place-2.ensures.cases))

pub returns-then-not-is_place : goal.returns-then-not-is_place
unfolding ascii
returns-then-not-is_place c =
    no_place _ c.in_ok-law.ensures c.in_ok-direction.ensures c.in_ok-place.ensures c.in_ok-law-2.law c.in_ok-law-2.ensures c.in_ok-direction-2.direction c.in_ok-direction-2.ensures
    (behind (ascii "at=") _ c.in_ok-place-2.place c.in_ok-place-2.ensures.cases)
    (sym c.if-not-is_place.true ∙ c.is_place.ensures)

pub returns-in_err-result : goal.returns-in_err-result
unfolding ascii
returns-in_err-result c =
    rw c.from_residual-in_err-result.ensures
    (no_to _ c.in_ok-law.ensures c.in_ok-direction.ensures c.in_ok-place.ensures c.in_ok-law-2.law c.in_ok-law-2.ensures c.in_ok-direction-2.direction c.in_ok-direction-2.ensures
    (behind (ascii "at=") _ c.in_ok-place-2.place c.in_ok-place-2.ensures.cases)
    (not_behind (ascii "to=") _ c.in_err-result.ensures.cases))

pub returns : goal.returns
unfolding ascii
returns c =
    let a = c.in_ok-law.ensures in
    let b = c.in_ok-direction.ensures in
    let d = c.in_ok-place.ensures in
    step_whole _ a b d c.in_ok-law-2.law c.in_ok-law-2.ensures c.in_ok-direction-2.direction c.in_ok-direction-2.ensures
    (behind (ascii "at=") _ c.in_ok-place-2.place c.in_ok-place-2.ensures.cases)
    (sym c.if-not-is_place.false ∙ c.is_place.ensures) _ refl refl refl
    (behind (ascii "to=") _ c.in_ok-result.result c.in_ok-result.ensures.cases)
    (omega (arith, a.shorter, b.shorter, d.shorter, c.in_ok-place-2.ensures.cases, c.in_ok-result.ensures.cases))
