-- `answer_job` meets its contract: the job is refused, or its sides are answered.
use Rattle.std.proofs.lemmas.Result.{err_from_is_err_and}
use Rattle.text.proofs.Entries.{job_refused, job_answered}
use Rattle.text.proofs.entry.answer_job.Goals as goal

pub returns-in_err-read : goal.returns-in_err-read
returns-in_err-read g c =
    let p = err_from_is_err_and c.from_residual.result c.from_residual.ensures.1 in
    rw (p.1, p.2) (job_refused c.args.job.now c.args.output.now c.in_err-read.ensures)

pub returns : goal.returns
returns g c = job_answered c.args.job.now c.in_ok-read.ensures (record { left = c.numbers.result; right = c.run_of.result }) c.numbers.ensures.is c.run_of.ensures _ _ c.answer.result c.answer.ensures
