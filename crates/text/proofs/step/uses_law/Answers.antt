-- `uses_law` meets its contract.
use Rattle.std.proofs.Common.{true, false, rules, tests}
use Rattle.std.proofs.lemmas.Iterator.{YieldsList-from_slice, cases_from_any}
use Rattle.text.proofs.Walks.{Leads, used_told}
use Rattle.text.proofs.step.uses_law.Goals as goal

pub returns : goal.returns
returns c =
    let a = c.args in
    let by_slot = cases_from_any _ _ _ (λ k. Leads a.lines.ws.now k a.law true) (λ k. Leads a.lines.ws.now k a.law false) c.any.ensures.ran (YieldsList-from_slice a.lines.path.now cc) (λ x q k. search (rules, tests)) (λ x q k. search (rules, tests)) in
    used_told a.law c.any.result by_slot
