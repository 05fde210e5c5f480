-- `layout_of` meets its contract: left, the right sides, then the limits.
use Rattle.std.proofs.Common.{arith}
use Rattle.text.specs.Bytes.{ascii}
use Rattle.text.proofs.RightLines.{all_counted}
use Rattle.text.proofs.Layouts.{no_left, no_right, no_limits, laid_out}
use Rattle.text.proofs.job.lines.layout_of.Goals as goal

pub returns-in_err-left : goal.returns-in_err-left
unfolding ascii
returns-in_err-left c = rw c.from_residual.ensures (no_left c.args.s.now c.in_err-left.ensures)

pub returns-then-rights-eq0 : goal.returns-then-rights-eq0
unfolding ascii
returns-then-rights-eq0 c = no_right c.args.s.now c.in_ok-left.ensures c.right_lines-rights.ensures c.if-rights-eq0.true

pub returns-in_err-limits : goal.returns-in_err-limits
unfolding ascii
returns-in_err-limits c =
    rw c.from_residual-in_err-limits.ensures (no_limits c.args.s.now c.in_ok-left.ensures c.right_lines-rights.ensures c.in_err-limits.ensures)

pub invariant_of-result : goal.invariant_of-result
invariant_of-result c = record { some_rights = omega arith; counted = all_counted _ _ _ c.right_lines-rights.ensures }

pub returns : goal.returns
unfolding ascii
returns c =
    let l = c.in_ok-left.ensures in
    let m = c.in_ok-limits.ensures in
    record {
      left_within = omega (arith, l.shorter);
      lines_within = omega (arith, l.shorter);
      limits = m.limits;
      is = m.is;
      lines = laid_out c.args.s.now l c.right_lines-rights.ensures (omega (arith, c.if-rights-eq0.false)) m.lines;
    }
