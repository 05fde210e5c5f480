-- `read_sides` meets its contract: left is read and kept, then the right sides, and all that is left is to accept them.
use Rattle.std.proofs.Common.{arith}
use Rattle.std.proofs.lemmas.List.{length-take-le}
use Rattle.std.proofs.lemmas.Result.{err_from_is_err_and}
use Rattle.text.proofs.Refusing.{there, missing}
use Rattle.text.proofs.Jobs.{large_left}
use Rattle.text.proofs.job.accept.read_sides.Goals as goal

pub returns-in_err-ok_or : goal.returns-in_err-ok_or
returns-in_err-ok_or c =
    let p = err_from_is_err_and c.from_residual-in_err-ok_or.result c.from_residual-in_err-ok_or.ensures.1 in
    let t = there _ _ _ c.read_term.ensures c.ok_or.ensures.ok_part c.in_ok-n.was in
    let (e, l) = missing _ _ _ c.of-left.ensures c.ok_or-2.ensures.value c.in_err-ok_or.was in
    rw (p.1, p.2, e) (large_left c.args.w t c.in_ok-read_rights.ensures.exact.1 (omega (arith, l, length-take-le c.in_ok-n.n c.read_term.new.run t.room)))
