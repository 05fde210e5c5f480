-- `keyed` meets its contract: the key is taken off, and the line ends at the next byte 10.
use Rattle.std.proofs.Common.{arith}
use Rattle.std.proofs.lemmas.Bool.Decides.{Decides-eqb}
use Rattle.std.proofs.lemmas.Slice.Eq.{strip_prefix_is}
use Rattle.text.proofs.Lines.{after_some, after_none, no_key, value_of}
use Rattle.text.proofs.job.keyed.Goals as goal

pub returns-in_err-strip_prefix : goal.returns-in_err-strip_prefix
returns-in_err-strip_prefix c =
    let s = c.args.s.now in
    let key = c.args.key.now in
    let h = strip_prefix_is Decides-eqb s key c.strip_prefix.result c.strip_prefix.ensures.cases in
    rw c.from_residual.ensures (no_key s key (after_none key s (rw c.in_err-strip_prefix.was at h)))

pub returns : goal.returns
returns c =
    let s = c.args.s.now in
    let key = c.args.key.now in
    let rest = c.in_ok-strip_prefix.field-0.now in
    let h = strip_prefix_is Decides-eqb s key c.strip_prefix.result c.strip_prefix.ensures.cases in
    value_of s key rest (after_some key rest s (rw c.in_ok-strip_prefix.was at h)) (omega (arith, c.in_ok-strip_prefix.ensures)) c.up_to.result c.up_to.ensures
