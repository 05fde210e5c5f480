-- `write_origin` meets its contract.
use Rattle.std.proofs.Common.{◌≡◌, ◌∙◌, refl}
use Rattle.search.specs.Origins.{numbers}
use Rattle.search.proofs.Writing.{rewrites}
use Rattle.search.proofs.slots.write_origin.Goals as goal

pub returns : goal.returns
returns c =
    let a = c.args in
    let e : c.overwrite.new.out ≡ numbers a.o = c.overwrite.ensures ∙ c.numbers.ensures in
    rw e (rewrites a.ws.now _ a.k a.o a.value c.requires refl)
