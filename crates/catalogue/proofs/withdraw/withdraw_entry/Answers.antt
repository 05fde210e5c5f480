-- `withdraw_entry` meets its contract.
use Rattle.text.specs.declared.refusal.Refusal.TheVariants.{NumberUnknown}
use Rattle.text.proofs.Refused.{refused_by}
use Rattle.catalogue.proofs.Calling.{not_there, taken_there}
use Rattle.catalogue.proofs.withdraw.withdraw_entry.Goals as goal

pub returns-in_err-place : goal.returns-in_err-place
returns-in_err-place c =
    let a = c.args in
    let q = refused_by c.place_of.result NumberUnknown c.from_residual.result c.from_residual.ensures.1 c.in_err-place.ensures.value in
    rw q.1 (not_there a.catalogue.now a.n c.requires (rw q.0 at c.place_of.ensures))

pub returns : goal.returns
returns c =
    let a = c.args in
    taken_there a.catalogue.now a.n c.requires c.in_ok-place.place (rw c.in_ok-place.ensures.ok_part at c.place_of.ensures) c.take_out.ensures
