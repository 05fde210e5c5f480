-- `read_put` meets its contract.
use Rattle.std.proofs.lemmas.Result.{err_from_is_err_and}
use Rattle.text.specs.declared.refusal.Refusal.TheVariants.{Malformed}
use Rattle.text.proofs.Refused.{refused_by}
use Rattle.catalogue.proofs.Reading.{long_put, no_put, no_key, job_refused, job_taken}
use Rattle.catalogue.proofs.read.read_put.Goals as goal

pub returns-then-s-gt-LONGEST : goal.returns-then-s-gt-LONGEST
returns-then-s-gt-LONGEST c = long_put _ c.if-s-gt-LONGEST.true

pub returns-in_err-number : goal.returns-in_err-number
returns-in_err-number c =
    let q = refused_by c.number_line.result Malformed c.from_residual.result c.from_residual.ensures.1 c.in_err-number.ensures.value in
    rw q.1 (no_put _ c.if-s-gt-LONGEST.false (rw q.0 at c.number_line.ensures))

pub returns-in_err-key : goal.returns-in_err-key
returns-in_err-key c =
    let q = refused_by c.key_line.result Malformed c.from_residual-in_err-key.result c.from_residual-in_err-key.ensures.1 c.in_err-key.ensures.value in
    let N = rw c.in_ok-number.ensures.ok_part at c.number_line.ensures in
    rw q.1 (no_key _ c.if-s-gt-LONGEST.false N (rw q.0 at c.key_line.ensures))

pub returns-in_err-left : goal.returns-in_err-left
returns-in_err-left c =
    let p = err_from_is_err_and c.from_residual-in_err-left.result c.from_residual-in_err-left.ensures.1 in
    let N = rw c.in_ok-number.ensures.ok_part at c.number_line.ensures in
    let K = rw c.in_ok-key.ensures.ok_part at c.key_line.ensures in
    rw (p.1, p.2) (job_refused _ c.if-s-gt-LONGEST.false N K c.in_err-left.ensures)

pub returns : goal.returns
returns c =
    let N = rw c.in_ok-number.ensures.ok_part at c.number_line.ensures in
    let K = rw c.in_ok-key.ensures.ok_part at c.key_line.ensures in
    job_taken _ c.if-s-gt-LONGEST.false N K c.in_ok-left.ensures
