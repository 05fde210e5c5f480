-- `put_reference` meets its contract.
use mathlib.Core.Path.{ap}
use Rattle.text.specs.Bytes.{ascii}
use Rattle.text.specs.Proof.{variable, index_of}
use Rattle.text.proofs.Writing.{put_as}
use Rattle.text.proofs.Rendered.{put_ref}
use Rattle.text.proofs.kernel_bridge.put_reference.Goals as goal

pub returns : goal.returns
unfolding ascii
returns c = put_ref (variable (index_of c.args.n c.args.names.now)) c.put_bytes.ensures (put_as (ap variable c.index_of.ensures) c.put_variable.ensures) c.put_byte.ensures
