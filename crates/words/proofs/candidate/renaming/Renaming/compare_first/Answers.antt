use Rattle.std.proofs.Common.{◌≡◌, length, ◌∙◌, sym, arith}
use Rattle.std.proofs.lemmas.Bool.{leb-false, eqb-true, eqb-false}
use Rattle.words.specs.RenameRun.{rename_number}
use Rattle.words.specs.Renaming.{new_of}
use Rattle.words.proofs.FirstWord.{run_ended, end_here, both_ended, end_after, longer_after, differs_here, equal_here}
use Rattle.words.proofs.candidate.renaming.Renaming.compare_first.Goals as goal
use Rattle.words.proofs.candidate.renaming.Renaming.compare_first.Goals.{then-run-i-via-then-run-i, then-run-i-via-else-run-i+then-run-i-eq0, then-run-word, else-run-word}

pub returns-then-run-i : goal.returns-then-run-i
returns-then-run-i c =
    let a = c.args in
    let g = rename_number (new_of a.self.now) in
    elim c.then-run-i.branch [
      | then-run-i-via-then-run-i w ↦ run_ended g a.word.now a.run.now c.loop-i.i _ c.loop-i.invariant c.loop-i-test.true w.if-run-i.true
      | then-run-i-via-else-run-i+then-run-i-eq0 w ↦
          end_here g a.word.now a.run.now c.loop-i.i _ c.loop-i.invariant c.loop-i-test.true w.if-run-i.false w.if-run-i-eq0.true
    ]

pub returns-then-is_ne : goal.returns-then-is_ne
returns-then-is_ne c =
    let a = c.args in
    differs_here (rename_number (new_of a.self.now)) a.word.now a.run.now c.loop-i.i _ c.loop-i.invariant c.number.result c.number.ensures
    c.loop-i-test.true c.if-run-i.false c.if-run-i-eq0.false c.cmp-order.ensures (sym c.is_ne.ensures ∙ c.if-is_ne.true)

pub loop-i-preserved : goal.loop-i-preserved
loop-i-preserved c =
    let a = c.args in
    equal_here (rename_number (new_of a.self.now)) a.word.now a.run.now c.loop-i.i _ c.loop-i.invariant c.number.result c.number.ensures
    c.loop-i-test.true c.if-run-i.false c.if-run-i-eq0.false c.cmp-order.ensures (sym c.is_ne.ensures ∙ c.if-is_ne.false)

pub returns-then-run-word-eq0 : goal.returns-then-run-word-eq0
returns-then-run-word-eq0 c =
    let a = c.args in
    let g = rename_number (new_of a.self.now) in
    let e : c.loop-i.i ≡ length a.word.now = omega arith in
    elim c.if-run-word.branch [
      | then-run-word w ↦ both_ended g a.word.now a.run.now c.loop-i.i _ c.loop-i.invariant c.loop-i-test.false (omega (arith, w.if-run-word.true))
      | else-run-word w ↦ end_after g a.word.now a.run.now c.loop-i.i _ c.loop-i.invariant c.loop-i-test.false (omega (arith, w.if-run-word.false))
          (rw e (eqb-true _ _ (sym w.value-is ∙ c.if-run-word-eq0.true)))
    ]

pub returns-else-run-word-eq0 : goal.returns-else-run-word-eq0
returns-else-run-word-eq0 c =
    let a = c.args in
    let g = rename_number (new_of a.self.now) in
    let e : c.loop-i.i ≡ length a.word.now = omega arith in
    elim c.if-run-word.branch [
      | then-run-word w ↦ absurd (omega (arith, leb-false _ _ (sym w.value-is ∙ c.if-run-word-eq0.false), w.if-run-word.true))
      | else-run-word w ↦ longer_after g a.word.now a.run.now c.loop-i.i _ c.loop-i.invariant c.loop-i-test.false (omega (arith, w.if-run-word.false))
          (rw e (eqb-false _ _ (sym w.value-is ∙ c.if-run-word-eq0.false)))
    ]
