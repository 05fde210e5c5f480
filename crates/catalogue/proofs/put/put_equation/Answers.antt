-- `put_equation` meets its contract.
use Rattle.text.specs.declared.refusal.Refusal.TheVariants.{CatalogueFull}
use Rattle.text.proofs.Refused.{refused_by}
use Rattle.catalogue.proofs.Calling.{put_again, put_nowhere, put_there}
use Rattle.catalogue.proofs.put.put_equation.Goals as goal

pub returns-then-is_some : goal.returns-then-is_some
returns-then-is_some c =
    let a = c.args in
    put_again a.catalogue.now a.n c.requires a.key a.sides.left.now a.sides.right.now c.place_of.result c.place_of.ensures c.if-is_some.ensures

pub returns-in_err-place : goal.returns-in_err-place
returns-in_err-place c =
    let a = c.args in
    let q = refused_by c.place_of-2.result CatalogueFull c.from_residual.result c.from_residual.ensures.1 c.in_err-place.ensures.value in
    rw q.1
    (put_nowhere a.catalogue.now a.n c.requires a.key a.sides.left.now a.sides.right.now c.place_of.result c.place_of.ensures c.if-is_some.ensures
    (rw q.0 at c.place_of-2.ensures))

pub returns : goal.returns
returns c =
    let a = c.args in
    put_there a.catalogue.now a.n c.requires a.key a.sides.left.now a.sides.right.now c.place_of.result c.place_of.ensures c.if-is_some.ensures
    c.in_ok-place.place (rw c.in_ok-place.ensures.ok_part at c.place_of-2.ensures) c.put_lists.ensures
