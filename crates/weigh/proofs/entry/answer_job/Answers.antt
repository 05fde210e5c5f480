-- `answer_job` meets its contract: the job is refused, or answered by the search.
use Rattle.std.proofs.lemmas.Result.{err_from_is_err_and}
use Rattle.weigh.proofs.Entries.{weigh_refused, weigh_given}
use Rattle.weigh.proofs.entry.answer_job.Goals as goal

pub returns-in_err-read : goal.returns-in_err-read
returns-in_err-read c =
    let a = c.args in
    let p = err_from_is_err_and c.from_residual.result c.from_residual.ensures.1 in
    rw (p.1, p.2) (weigh_refused a.job.now a.output.now a.workspace.now c.in_err-read.ensures)

pub returns : goal.returns
returns c =
    let a = c.args in
    weigh_given a.job.now a.output.now a.workspace.now c.answer_weigh.result _ _ c.in_ok-read.ensures (c.answer_weigh.ensures a.job.now c.in_ok-read.ensures)
