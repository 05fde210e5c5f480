-- `same` meets its contract: it returns the number of what is given.
use Rattle.std.proofs.Common.{arith}
use Rattle.text.proofs.Entries.{call_of, gives_fitting, same_given}
use Rattle.text.proofs.entry.same.Goals as goal

pub returned-requires : goal.returned-requires
returned-requires c =
    let a = c.args in
    let g = same_given a.job.now a.output.now c.answer_job.result c.answer_job.ensures (λ sides o o' q post. post.1) in
    gives_fitting _ _ c.answer_job.result c.answer_job.new.output g (omega arith)

pub returns : goal.returns
returns c =
    let a = c.args in
    let g = same_given a.job.now a.output.now c.answer_job.result c.answer_job.ensures (λ sides o o' q post. post.1) in
    rw c.returned.ensures (call_of _ _ c.answer_job.result g)
