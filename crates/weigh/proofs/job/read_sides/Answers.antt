-- `read_sides` meets its contract: both sides are read and kept, and all that is left is to accept them.
use Rattle.std.proofs.Common.{arith, ap, length}
use Rattle.std.proofs.lemmas.List.{length-take-le}
use Rattle.text.specs.declared.refusal.Refusal.TheVariants.{NoTerm, TooLarge}
use Rattle.text.proofs.Refused.{refused_by}
use Rattle.weigh.proofs.Accepting.{foul_left, foul_right, large_left, large_right, sides_read}
use Rattle.weigh.proofs.job.read_sides.Goals as goal

pub returns-in_err-n : goal.returns-in_err-n
returns-in_err-n c =
    let q = refused_by c.read_term.result NoTerm c.from_residual.result c.from_residual.ensures.1 c.in_err-n.ensures.value in
    rw q.1 (foul_left c.args.w (rw q.0 at c.read_term.ensures))

pub returns-in_err-n-2 : goal.returns-in_err-n-2
returns-in_err-n-2 c =
    let q = refused_by c.read_term-2.result NoTerm c.from_residual-in_err-n-2.result c.from_residual-in_err-n-2.ensures.1 c.in_err-n-2.ensures.value in
    let a = rw c.in_ok-n.ensures.ok_part at c.read_term.ensures in
    rw q.1 (foul_right c.args.w a (rw q.0 at c.read_term-2.ensures))

pub returns-in_err-ok_or : goal.returns-in_err-ok_or
returns-in_err-ok_or c =
    let q = refused_by c.of-left.result TooLarge c.from_residual-in_err-ok_or.result c.from_residual-in_err-ok_or.ensures.1 c.in_err-ok_or.ensures.value in
    let a = rw c.in_ok-n.ensures.ok_part at c.read_term.ensures in
    let b = rw c.in_ok-n-2.ensures.ok_part at c.read_term-2.ensures in
    let large = rw q.0 at c.of-left.ensures in
    rw q.1 (large_left c.args.w a b (omega (arith, large, length-take-le c.in_ok-n.n c.read_term.new.run a.room)))

pub returns-in_err-ok_or-2 : goal.returns-in_err-ok_or-2
returns-in_err-ok_or-2 c =
    let q = refused_by c.of-right.result TooLarge c.from_residual-in_err-ok_or-2.result c.from_residual-in_err-ok_or-2.ensures.1 c.in_err-ok_or-2.ensures.value in
    let a = rw c.in_ok-n.ensures.ok_part at c.read_term.ensures in
    let b = rw c.in_ok-n-2.ensures.ok_part at c.read_term-2.ensures in
    let large = rw q.0 at c.of-right.ensures in
    rw q.1 (large_right c.args.w a b (omega (arith, large, length-take-le c.in_ok-n-2.n c.read_term-2.new.run b.room)))

pub returns : goal.returns
returns c =
    let a = rw c.in_ok-n.ensures.ok_part at c.read_term.ensures in
    let b = rw c.in_ok-n-2.ensures.ok_part at c.read_term-2.ensures in
    let (l, m) = rw c.in_ok-ok_or.ensures.ok_part at c.of-left.ensures in
    let (r, n) = rw c.in_ok-ok_or-2.ensures.ok_part at c.of-right.ensures in
    sides_read c.args.w a b l (omega (arith, ap length l, m)) r (omega (arith, ap length r, n)) c.accept.ensures
