-- `render_congruence` meets its contract.
use Rattle.search.specs.Coded.{side_of}
use Rattle.text.specs.Bytes.{ascii}
use Rattle.text.specs.Proof.{part}
use Rattle.text.specs.Framed.{frame}
use Rattle.text.proofs.Writing.{then}
use Rattle.text.proofs.kernel_bridge.path.render_congruence.Goals as goal

pub returns : goal.returns
unfolding ascii frame
returns c =
    let d = side_of c.args.side in
    λ u v h k.
    then c.put_bytes.ensures
    (then (c.render_context.ensures u h)
    (then c.put_bytes-2.ensures
    (then (c.render_term.ensures (part d u) (c.part_of.ensures u h))
    (then c.put_bytes-3.ensures (then (c.render_term-2.ensures (part d v) (c.part_of-2.ensures v k)) c.put_bytes-4.ensures)))))
