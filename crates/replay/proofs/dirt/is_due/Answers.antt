use Rattle.std.proofs.Common.{◌≡◌, get_or, rules, arith}
use Rattle.std.proofs.lemmas.Bool.{false≢true}
use Rattle.replay.proofs.Looking.{due_step, other_byte, due_end}
use Rattle.replay.proofs.dirt.is_due.Goals as goal

pub returns-then-byte-due : goal.returns-then-byte-due
returns-then-byte-due c =
    let due : c.unwrap_or-due.result ≡ get_or c.args.text.now c.loop-i.i c.loop-i.filled = search rules in
    (λ t. absurd (false≢true t), λ e. absurd (other_byte _ _ _ _ _ c.loop-i-test.true due c.if-byte-due.true (c.loop-i.invariant.0 e)))

pub loop-i-preserved : goal.loop-i-preserved
loop-i-preserved c =
    let due : c.unwrap_or-due.result ≡ get_or c.args.text.now c.loop-i.i c.loop-i.filled = search rules in
    let step = due_step _ _ _ _ _ c.loop-i-test.true due _ c.if-byte-due.false c.following-filled.ensures in
    (λ e. step.0 (c.loop-i.invariant.0 e), λ e. c.loop-i.invariant.1 (step.1 e))

pub returns : goal.returns
returns c =
    let end = due_end c.args.output.now c.args.text.now c.loop-i.filled c.loop-i.i (omega arith) in
    (λ t. c.loop-i.invariant.1 (end.0 t), λ e. end.1 (c.loop-i.invariant.0 e))
