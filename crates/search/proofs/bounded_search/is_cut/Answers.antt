-- `is_cut` meets its contract: a law for each way out.
use Rattle.std.proofs.Common.{arith, subst, sym}
use lib.Dec.{ltb}
use borrow.Author.Tests.{le-ltb}
use Rattle.search.specs.Searched.{Cuts}
use Rattle.search.proofs.Cutting.{cuts_end, cuts_next}
use Rattle.search.proofs.bounded_search.is_cut.Goals as goal

pub returns-then-ended-noted : goal.returns-then-ended-noted
returns-then-ended-noted c =
    let a = c.args in
    let next = cuts_next a.ws.now a.ended a.limits (omega (arith, c.if-ended-noted.true, c.min-noted.ensures)) in
    subst (λ d. Cuts a.ws.now a.ended a.limits (ltb d a.limits.steps)) (sym c.value_of.ensures) next

pub returns-else-ended-noted : goal.returns-else-ended-noted
returns-else-ended-noted c =
    let a = c.args in
    let h = c.if-ended-noted.false in
    rw (le-ltb _ _ h) (cuts_end a.ws.now a.ended a.limits (omega (arith, h, c.min-noted.ensures, c.slots_of.ensures)))
