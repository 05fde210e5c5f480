-- `up_to` meets its contract: the byte stands first where it is found.
use Rattle.std.proofs.Common.{sym, ◌∙◌, ◌+◌}
use Rattle.std.proofs.lemmas.List.{take_rest}
use Rattle.text.proofs.Lines.{up_to_at, up_to_none}
use Rattle.text.proofs.job.up_to.Goals as goal

pub returns-in_err-end : goal.returns-in_err-end
returns-in_err-end c =
    rw c.from_residual.ensures (up_to_none c.args.b c.args.s.now (sym c.place_of.ensures ∙ c.in_err-end.was))

pub returns : goal.returns
returns c =
    let s = c.args.s.now in
    rw (take_rest s (c.in_ok-end.end + 1)) (up_to_at c.args.b s c.in_ok-end.end (sym c.place_of.ensures ∙ c.in_ok-end.was))
