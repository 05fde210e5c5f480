-- `judge_lines` meets its contract: the terms are read, then asked for their size, then judged.
use Rattle.std.proofs.lemmas.Result.{err_from_is_err_and}
use Rattle.text.specs.declared.refusal.Refusal.TheVariants.{NoTerm, TooLarge}
use Rattle.text.proofs.Refused.{refused_by}
use Rattle.checking.proofs.Judging.{foul_left, foul_right, results_refused, large_left, large_right, lines_judged}
use Rattle.checking.proofs.judge.judge_lines.Goals as goal

pub returns-in_err-ok_or : goal.returns-in_err-ok_or
returns-in_err-ok_or c =
    let q = refused_by c.read.result NoTerm c.from_residual.result c.from_residual.ensures.1 c.in_err-ok_or.ensures.value in
    rw q.1 (foul_left c.args.left.now c.args.right.now c.args.steps.text.now (rw q.0 at c.read.ensures.run))

pub returns-in_err-ok_or-2 : goal.returns-in_err-ok_or-2
returns-in_err-ok_or-2 c =
    let q = refused_by c.read-2.result NoTerm c.from_residual-in_err-ok_or-2.result c.from_residual-in_err-ok_or-2.ensures.1 c.in_err-ok_or-2.ensures.value in
    let a = rw c.in_ok-ok_or.ensures.ok_part at c.read.ensures.run in
    rw q.1 (foul_right c.args.right.now c.args.steps.text.now a (rw q.0 at c.read-2.ensures.run))

pub returns-in_err-read_results : goal.returns-in_err-read_results
returns-in_err-read_results c =
    let p = err_from_is_err_and c.from_residual-in_err-read_results.result c.from_residual-in_err-read_results.ensures.1 in
    let a = rw c.in_ok-ok_or.ensures.ok_part at c.read.ensures.run in
    let b = rw c.in_ok-ok_or-2.ensures.ok_part at c.read-2.ensures.run in
    rw (p.1, p.2) (results_refused a b c.in_err-read_results.ensures.results)

pub returns-in_err-left : goal.returns-in_err-left
returns-in_err-left c =
    let q = refused_by c.of-left.result TooLarge c.from_residual-in_err-left.result c.from_residual-in_err-left.ensures.1 c.in_err-left.ensures.value in
    let a = rw c.in_ok-ok_or.ensures.ok_part at c.read.ensures.run in
    let b = rw c.in_ok-ok_or-2.ensures.ok_part at c.read-2.ensures.run in
    rw q.1 (large_left a b c.in_ok-read_results.ensures.results (rw q.0 at c.of-left.ensures))

pub returns-in_err-right : goal.returns-in_err-right
returns-in_err-right c =
    let q = refused_by c.of-right.result TooLarge c.from_residual-in_err-right.result c.from_residual-in_err-right.ensures.1 c.in_err-right.ensures.value in
    let a = rw c.in_ok-ok_or.ensures.ok_part at c.read.ensures.run in
    let b = rw c.in_ok-ok_or-2.ensures.ok_part at c.read-2.ensures.run in
    rw q.1 (large_right a b c.in_ok-read_results.ensures.results (rw q.0 at c.of-right.ensures))

pub returns : goal.returns
returns c =
    let a = rw c.in_ok-ok_or.ensures.ok_part at c.read.ensures.run in
    let b = rw c.in_ok-ok_or-2.ensures.ok_part at c.read-2.ensures.run in
    let (l, m) = rw c.in_ok-left.ensures.ok_part at c.of-left.ensures in
    let (r, n) = rw c.in_ok-right.ensures.ok_part at c.of-right.ensures in
    lines_judged a b c.in_ok-read_results.ensures.results m n (rw (l, r) at c.judge_terms.ensures)
