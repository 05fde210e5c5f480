-- `read_job` meets its contract: a text that is well formed within its bounds has one right side.
use Rattle.text.proofs.Jobs.{job_read}
use Rattle.text.proofs.job.accept.read_job.Goals as goal

pub returns : goal.returns
returns c = job_read c.args.s.now _ _ c.read_within.ensures
