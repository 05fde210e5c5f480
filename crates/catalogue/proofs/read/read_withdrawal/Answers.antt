-- `read_withdrawal` meets its contract.
use Rattle.std.proofs.Common.{arith}
use Rattle.text.specs.declared.refusal.Refusal.TheVariants.{Malformed}
use Rattle.text.proofs.Refused.{refused_by}
use Rattle.catalogue.proofs.Reading.{long_withdrawal, no_withdrawal, more_behind, withdrawal_read}
use Rattle.catalogue.proofs.read.read_withdrawal.Goals as goal

pub returns-then-s-gt-LONGEST : goal.returns-then-s-gt-LONGEST
returns-then-s-gt-LONGEST c = long_withdrawal _ c.if-s-gt-LONGEST.true

pub returns-in_err-n : goal.returns-in_err-n
returns-in_err-n c =
    let q = refused_by c.number_line.result Malformed c.from_residual.result c.from_residual.ensures.1 c.in_err-n.ensures.value in
    rw q.1 (no_withdrawal _ c.if-s-gt-LONGEST.false (rw q.0 at c.number_line.ensures))

pub returns-then-not-is_empty : goal.returns-then-not-is_empty
returns-then-not-is_empty c = more_behind _ c.if-s-gt-LONGEST.false (rw c.in_ok-n.ensures.ok_part at c.number_line.ensures) (grind arith)

pub returns : goal.returns
returns c =
    let N = rw c.in_ok-n.ensures.ok_part at c.number_line.ensures in
    (N.low, withdrawal_read _ c.if-s-gt-LONGEST.false N (grind arith))
