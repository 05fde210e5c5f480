-- `take` meets its contract: a law for each way out.
use Rattle.std.proofs.Common.{sym, subst, rules}
use Rattle.search.specs.Runs.{Shows}
use Rattle.search.proofs.Taking.{takes_full, takes_long, takes_start, takes_noted}
use Rattle.search.proofs.bounded_search.Search.take.Goals as goal

pub returns-then-self-noted : goal.returns-then-self-noted
returns-then-self-noted c = search (takes_full, rules)

pub returns-in_err-run : goal.returns-in_err-run
returns-in_err-run c =
    let a = c.args in
    rw c.from_residual.ensures
    (takes_long a.ws.now a.noted a.self.slots a.res.now a.k a.distance a.self.rights.slots.now a.replies.now _ c.run_of.ensures c.in_err-run.ensures)

pub returns-in_default : goal.returns-in_default
returns-in_default c = search (takes_start, rules)

pub returns : goal.returns
returns c =
    let a = c.args in
    let e = c.in_ok-run.ensures in
    let W : Shows a.res.now a.k c.in_ok-run.run'.numbers.now = subst (λ xs. Shows a.res.now a.k xs) (sym e) c.run_of.ensures in
    search (takes_noted, rules)
