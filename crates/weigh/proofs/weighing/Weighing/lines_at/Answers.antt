-- `lines_at` meets its contract.
use Rattle.std.specs.Prelude.{◌+◌, ◌*◌, ◌≡◌}
use Rattle.std.proofs.Common.{arith, refl, ◌∙◌}
use Rattle.search.proofs.InTurn.{step_lines, law_in_turn, direction_in_turn}
use Rattle.weigh.proofs.Turns.{turns_none, turns_full, step_taken, step_passed, step_outgrown, step_repeated, steps_all, law_heavy}
use Rattle.weigh.proofs.weighing.Weighing.lines_at.Goals.{then-repeats-via-then-repeats, then-repeats-via-else-repeats+then-outgrows}
use Rattle.weigh.proofs.weighing.Weighing.lines_at.Goals as goal

pub loop-law-init : goal.loop-law-init
loop-law-init c = let a = c.args in turns_none (step_lines a.place a.term.slot) c.requires.slots.0

pub loop-law-preserved-in_default : goal.loop-law-preserved-in_default
loop-law-preserved-in_default c =
    law_heavy c.args.place c.loop-law.law-index c.loop-law.invariant _ refl c.requires.place.0 c.in_default.ensures

pub loop-direction-preserved-then-repeats : goal.loop-direction-preserved-then-repeats
loop-direction-preserved-then-repeats c =
    let i = c.loop-law.law-index in
    let j = c.loop-direction.direction-index in
    let h = c.loop-direction-test.true in
    let e : 2 * i + (j + 1) ≡ 2 * i + j + 1 = omega arith in
    rw e (
    elim c.then-repeats.branch [
      | then-repeats-via-then-repeats w ↦
          step_repeated c.args.place (2 * i + j) c.loop-direction.invariant _ _ (law_in_turn i j h) (direction_in_turn i j h) _ c.repeats.ensures w.if-repeats.true
      | then-repeats-via-else-repeats+then-outgrows w ↦
          step_outgrown c.args.place (2 * i + j) c.loop-direction.invariant _ _ (law_in_turn i j h) (direction_in_turn i j h) c.requires.place.0 _
          (c.loop-direction.auto.out ∙ c.loop-law.auto.out) _ w.outgrows.ensures w.if-outgrows.true
    ])

pub loop-direction-preserved-in_default-binding : goal.loop-direction-preserved-in_default-binding
loop-direction-preserved-in_default-binding c =
    let i = c.loop-law.law-index in
    let j = c.loop-direction.direction-index in
    let h = c.loop-direction-test.true in
    let e : 2 * i + (j + 1) ≡ 2 * i + j + 1 = omega arith in
    rw e (
    step_passed c.args.place (2 * i + j) c.loop-direction.invariant _ _ (law_in_turn i j h) (direction_in_turn i j h) c.requires.place.0 _
    c.bind_law-binding.ensures c.in_default-binding.is)

pub returns-in_err-count : goal.returns-in_err-count
returns-in_err-count c =
    let i = c.loop-law.law-index in
    let j = c.loop-direction.direction-index in
    let h = c.loop-direction-test.true in
    let A =
    step_taken c.args.place (2 * i + j) c.loop-direction.invariant _ _ (law_in_turn i j h) (direction_in_turn i j h)
    (c.loop-direction.auto.out ∙ c.loop-law.auto.out) c.take_line.ensures
    in
    rw c.from_residual.ensures (steps_all c.args.place 20 refl (turns_full (step_lines c.args.place c.args.term.slot) (2 * i + j + 1) 20 (omega arith) (rw c.in_err-count.was at A)))

pub loop-direction-preserved : goal.loop-direction-preserved
loop-direction-preserved c =
    let i = c.loop-law.law-index in
    let j = c.loop-direction.direction-index in
    let h = c.loop-direction-test.true in
    let e : 2 * i + (j + 1) ≡ 2 * i + j + 1 = omega arith in
    rw e (
    step_taken c.args.place (2 * i + j) c.loop-direction.invariant _ _ (law_in_turn i j h) (direction_in_turn i j h)
    (c.loop-direction.auto.out ∙ c.loop-law.auto.out) (rw c.in_ok-count.was at c.take_line.ensures))

pub loop-law-preserved : goal.loop-law-preserved
loop-law-preserved c =
    let i = c.loop-law.law-index in
    let j = c.loop-direction.direction-index in
    let e : 2 * (i + 1) ≡ 2 * i + j = omega arith in
    rw e c.loop-direction.invariant

pub returns : goal.returns
returns c = let l = c.loop-law in steps_all c.args.place (2 * l.law-index) (omega arith) l.invariant
