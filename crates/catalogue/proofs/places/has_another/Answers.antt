-- `has_another` meets its contract.
use Rattle.std.proofs.Common.{rules, refl}
use Rattle.std.proofs.lemmas.Iterator.{cases_from_any, YieldsList-from_range}
use Rattle.catalogue.specs.Catalogue.{PLACES}
use Rattle.catalogue.specs.Promises.{OtherOf}
use Rattle.catalogue.proofs.Walking.{one_found}
use Rattle.catalogue.proofs.places.has_another.Goals as goal

pub returns : goal.returns
returns c =
    let a = c.args in
    let other = OtherOf a.catalogue.now a.but a.kind.key a.kind.left.now a.kind.right.now in
    one_found other PLACES c.any.result
    (cases_from_any _ _ c.any.result other (λ k. other k → ⊥) c.any.ensures.ran (YieldsList-from_range 0 PLACES PLACES refl refl)
    (λ k q d. search rules) (λ k q d. search rules))
