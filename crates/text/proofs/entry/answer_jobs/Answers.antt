-- `answer_jobs` meets its contract: the job is refused, or answered by the search.
use Rattle.std.proofs.lemmas.Result.{err_from_is_err_and}
use Rattle.text.proofs.Entries.{find_refused, find_answered}
use Rattle.text.proofs.entry.answer_jobs.Goals as goal

pub returns-in_err-read : goal.returns-in_err-read
returns-in_err-read c =
    let a = c.args in
    let p = err_from_is_err_and c.from_residual.result c.from_residual.ensures.1 in
    rw (p.1, p.2) (find_refused a.job.now a.output.now a.workspace.now c.in_err-read.ensures)

pub returns : goal.returns
returns c =
    let a = c.args in
    find_answered a.job.now c.in_ok-read.ensures c.numbers.ensures.is c.answer_find.result a.output.now c.answer_find.ensures
