-- `put_atom` meets its contract.
use Rattle.text.specs.Bytes.{ascii}
use Rattle.text.specs.Proof.{ref}
use Rattle.text.proofs.Writing.{put_as}
use Rattle.text.proofs.Rendered.{atom_letter, atom_zero, atom_one}
use Rattle.text.proofs.kernel_bridge.put_atom.Goals as goal

pub returns-then-n-lt-ZERO : goal.returns-then-n-lt-ZERO
returns-then-n-lt-ZERO c =
    let a = c.args in
    put_as (atom_letter a.names.now a.n c.if-n-lt-ZERO.true) c.put_reference.ensures

pub returns-then-n-eq-ZERO : goal.returns-then-n-eq-ZERO
unfolding ref ascii
returns-then-n-eq-ZERO c =
    let a = c.args in
    put_as (atom_zero a.names.now a.n c.if-n-eq-ZERO.true) c.put_bytes.ensures

pub returns-else-n-eq-ZERO : goal.returns-else-n-eq-ZERO
unfolding ref ascii
returns-else-n-eq-ZERO c =
    let a = c.args in
    put_as (atom_one a.names.now a.n c.if-n-lt-ZERO.false c.if-n-eq-ZERO.false) c.put_bytes-else-n-eq-ZERO.ensures
