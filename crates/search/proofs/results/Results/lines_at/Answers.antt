-- `lines_at` meets its contract.
use Prim.Native.Nat.{◌+◌, ◌*◌}
use native.Mathlib.Omega.{arith}
use mathlib.Core.Path.{◌≡◌, refl, ◌∙◌}
use Rattle.search.proofs.Resulting.{lent_then}
use Rattle.search.proofs.InTurn.{turns_none, step_lines, law_in_turn, direction_in_turn, step_kept, step_passed, step_outgrown, step_repeated, steps_all}
use Rattle.search.proofs.results.Results.lines_at.Goals.{then-repeats-via-then-repeats, then-repeats-via-else-repeats+then-outgrows}
use Rattle.search.proofs.results.Results.lines_at.Goals as goal

pub loop-law-init : goal.loop-law-init
loop-law-init c = let a = c.args in ((refl, refl, refl, refl), turns_none (step_lines a.place a.term.slot))

pub loop-direction-preserved-then-repeats : goal.loop-direction-preserved-then-repeats
loop-direction-preserved-then-repeats c =
    let i = c.loop-law.law-index in
    let j = c.loop-direction.direction-index in
    let v = c.loop-direction.invariant in
    let h = c.loop-direction-test.true in
    let e : 2 * i + (j + 1) ≡ 2 * i + j + 1 = omega arith in (
      v.0,
      rw e (
          elim c.then-repeats.branch [
            | then-repeats-via-then-repeats w ↦
                step_repeated c.args.place (2 * i + j) v.1 _ _ (law_in_turn i j h) (direction_in_turn i j h) _ c.repeats.ensures w.if-repeats.true
            | then-repeats-via-else-repeats+then-outgrows w ↦
                step_outgrown c.args.place (2 * i + j) v.1 _ _ (law_in_turn i j h) (direction_in_turn i j h) c.requires.0 _
                (c.loop-direction.auto.out ∙ c.loop-law.auto.out) _ w.outgrows.ensures w.if-outgrows.true
          ]),
    )

pub loop-direction-preserved-in_default : goal.loop-direction-preserved-in_default
loop-direction-preserved-in_default c =
    let i = c.loop-law.law-index in
    let j = c.loop-direction.direction-index in
    let v = c.loop-direction.invariant in
    let h = c.loop-direction-test.true in
    let e : 2 * i + (j + 1) ≡ 2 * i + j + 1 = omega arith in (
      v.0,
      rw e (
          step_passed c.args.place (2 * i + j) v.1 _ _ (law_in_turn i j h) (direction_in_turn i j h) c.requires.0 _ c.bind_law-binding.ensures
          c.in_default.is),
    )

pub loop-direction-preserved : goal.loop-direction-preserved
loop-direction-preserved c =
    let i = c.loop-law.law-index in
    let j = c.loop-direction.direction-index in
    let v = c.loop-direction.invariant in
    let h = c.loop-direction-test.true in
    let e : 2 * i + (j + 1) ≡ 2 * i + j + 1 = omega arith in (
      lent_then c.args.self.now c.loop-direction.self c.keep_line.new.self v.0 c.keep_line.ensures.lent,
      rw e (
          step_kept c.args.place (2 * i + j) v.1 _ _ (law_in_turn i j h) (direction_in_turn i j h)
          (c.loop-direction.auto.out ∙ c.loop-law.auto.out) c.keep_line.ensures.added),
    )

pub returns-clause-added : goal.returns-clause-added
returns-clause-added c = let l = c.loop-law in steps_all c.args.place (2 * l.law-index) l.invariant.1 (omega arith) (omega arith)
