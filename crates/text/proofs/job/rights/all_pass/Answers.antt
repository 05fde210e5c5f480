-- `all_pass` meets its contract: the test of each slot's run decides.
use Rattle.std.proofs.Common.{refl, arith, rules, true, false}
use Rattle.std.specs.Fn.{FnReturnsAt}
use Rattle.std.proofs.lemmas.Iterator.{cases_from_all, YieldsList-from_range}
use Rattle.text.proofs.Rights.{Told, all_told}
use Rattle.text.proofs.job.rights.all_pass.Goals as goal

pub returns : goal.returns
returns g c =
    let a = c.args in
    let told = Told (λ xs b. FnReturnsAt g.F.Fn a.passes xs b) a.rights.now a.n in
    all_told _ a.rights.now a.n c.all.result
    (cases_from_all _ _ c.all.result (told true) (told false) c.all.ensures.ran (YieldsList-from_range 0 a.n a.n refl (omega arith)) (λ x q k. search rules) (λ x q k. search rules))
