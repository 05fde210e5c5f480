-- `try_withdraw` meets its contract.
use Rattle.std.proofs.lemmas.Result.{err_from_is_err_and}
use Rattle.catalogue.proofs.Calling.{other_length, text_refused, withdrawal_refused, withdrawal_sent}
use Rattle.catalogue.proofs.entry.try_withdraw.Goals as goal

pub returns-in_default : goal.returns-in_default
returns-in_default c = other_length _ _ c.in_default.ensures.cases

pub returns-in_err-read_withdrawal : goal.returns-in_err-read_withdrawal
returns-in_err-read_withdrawal c =
    let p = err_from_is_err_and c.from_residual.result c.from_residual.ensures.1 in
    let whole = c.in-Some.ensures.cases in
    rw (whole.same, p.1, p.2) (text_refused _ _ whole.long (withdrawal_refused _ c.in_err-read_withdrawal.ensures))

pub returns : goal.returns
returns c =
    let whole = c.in-Some.ensures.cases in
    withdrawal_sent c.args.text.now _ whole.long c.in_ok-read_withdrawal.ensures.1 (rw whole.same at c.withdraw_entry.ensures)
