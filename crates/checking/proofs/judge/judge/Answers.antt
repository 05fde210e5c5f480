-- `judge` meets its contract: the lines of a text that is not too long.
use Rattle.std.proofs.Common.{arith}
use Rattle.text.specs.declared.refusal.Refusal.TheVariants.{Malformed}
use Rattle.text.proofs.Refused.{refused_by}
use Rattle.checking.proofs.Judging.{judge_long, judge_malformed, judge_laid}
use Rattle.checking.proofs.judge.judge.Goals as goal

pub returns-then-s-gt-MOST_BYTES : goal.returns-then-s-gt-MOST_BYTES
returns-then-s-gt-MOST_BYTES c = judge_long c.args.s.now (omega arith)

pub returns-in_err-w : goal.returns-in_err-w
returns-in_err-w c =
    let q = refused_by c.layout_of.result Malformed c.from_residual.result c.from_residual.ensures.1 c.in_err-w.ensures.value in
    rw q.1 (judge_malformed c.args.s.now (omega arith) (rw q.0 at c.layout_of.ensures))

pub returns : goal.returns
returns c = judge_laid c.args.s.now (omega arith) (rw c.in_ok-w.ensures.ok_part at c.layout_of.ensures) _ c.judge_written.ensures
