-- `put_call` meets its contract.
use Rattle.search.specs.Coded.{name_of}
use Rattle.text.specs.Bytes.{ascii}
use Rattle.text.specs.StepText.{law_name}
use Rattle.text.proofs.Writing.{put_as}
use Rattle.text.proofs.Rendered.{put_ref}
use Rattle.text.proofs.Applied.{put_call}
use Rattle.text.proofs.kernel_bridge.put_call.Goals as goal

pub returns : goal.returns
unfolding ascii
returns c =
    let a = c.args in
    let name = law_name (name_of a.law) in
    λ σ m.
    put_call a.names.now name σ (c.put_applications.ensures a.run.now σ m)
    (put_ref name c.put_bytes.ensures (put_as c.law_name.ensures c.put_bytes-2.ensures) c.put_byte.ensures)
    (c.put_arguments.ensures σ m)
