-- `render_symmetry` meets its contract.
use Rattle.search.specs.Law.{semiring}
use Rattle.search.specs.Coded.{name_of}
use Rattle.text.specs.Bytes.{ascii}
use Rattle.text.proofs.Writing.{then, put_as}
use Rattle.text.proofs.Framing.{symmetry_text}
use Rattle.text.proofs.kernel_bridge.path.render_symmetry.Goals as goal

pub returns : goal.returns
unfolding ascii
returns c =
    let a = c.args in
    λ u v h k p q.
    put_as (symmetry_text a.names.now semiring (name_of a.law) u v)
    (then c.put_bytes.ensures
    (then (c.render_term.ensures v k)
    (then c.put_bytes-2.ensures
    (then (c.render_term-2.ensures u h)
    (then c.put_bytes-3.ensures (then (c.render_axiom_application.ensures v u k h q p) c.put_byte.ensures))))))
