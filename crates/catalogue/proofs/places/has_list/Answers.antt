-- `has_list` meets its contract.
use Rattle.catalogue.proofs.Comparing.{list_begins}
use Rattle.catalogue.proofs.places.has_list.Goals as goal

pub returns-then-catalogue-size : goal.returns-then-catalogue-size
returns-then-catalogue-size c =
    let a = c.args in
    list_begins a.catalogue.now a.size a.from a.list.now c.starts_with.result c.told-catalogue c.if-catalogue-size.true c.starts_with.ensures.value
