-- `try_put` meets its contract.
use Rattle.std.proofs.lemmas.Result.{err_from_is_err_and}
use Rattle.catalogue.proofs.Calling.{other_length, text_refused, put_refused, put_sent}
use Rattle.catalogue.proofs.entry.try_put.Goals as goal

pub returns-in_default : goal.returns-in_default
returns-in_default c = other_length _ _ c.in_default.ensures.cases

pub returns-in_err-put : goal.returns-in_err-put
returns-in_err-put c =
    let p = err_from_is_err_and c.from_residual.result c.from_residual.ensures.1 in
    let whole = c.in-Some.ensures.cases in
    rw (whole.same, p.1, p.2) (text_refused _ _ whole.long (put_refused _ c.in_err-put.ensures))

pub returns : goal.returns
returns c =
    let whole = c.in-Some.ensures.cases in
    put_sent c.args.text.now _ whole.long c.in_ok-put.ensures c.numbers.ensures.is c.run_of.ensures (rw whole.same at c.put_equation.ensures)
