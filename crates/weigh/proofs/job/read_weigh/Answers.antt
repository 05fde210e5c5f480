-- `read_weigh` meets its contract: the sides of a text that is not too long and well formed.
use Rattle.text.specs.declared.refusal.Refusal.TheVariants.{Malformed}
use Rattle.text.proofs.Refused.{refused_by}
use Rattle.weigh.proofs.Accepting.{too_long, malformed, text_read}
use Rattle.weigh.proofs.job.read_weigh.Goals as goal

pub returns-then-s-gt-MOST_BYTES : goal.returns-then-s-gt-MOST_BYTES
returns-then-s-gt-MOST_BYTES c = too_long c.args.s.now c.if-s-gt-MOST_BYTES.true

pub returns-in_err-ok_or : goal.returns-in_err-ok_or
returns-in_err-ok_or c =
    let q = refused_by c.layout_of.result Malformed c.from_residual.result c.from_residual.ensures.1 c.in_err-ok_or.ensures.value in
    rw q.1 (malformed c.args.s.now c.if-s-gt-MOST_BYTES.false (rw q.0 at c.layout_of.ensures))

pub returns : goal.returns
returns c =
    text_read c.args.s.now c.if-s-gt-MOST_BYTES.false (rw c.in_ok-ok_or.ensures.ok_part at c.layout_of.ensures) _ c.read_sides.ensures
