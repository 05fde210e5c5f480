-- `render_step` meets its contract: a line below the root is one on the part that has its place.
use native.Mathlib.Omega.{arith}
use Rattle.search.specs.Law.{semiring}
use Rattle.search.specs.Coded.{name_of, direction_of, side_of}
use Rattle.text.specs.Bytes.{ascii}
use Rattle.text.specs.Proof.{part}
use Rattle.text.proofs.Framing.{part_size, line_here, line_below, below_held, below_inside}
use Rattle.text.proofs.kernel_bridge.path.+render_step.Goals as goal

pub returns-in_default : goal.returns-in_default
returns-in_default t c =
    let a = c.args in
    λ u v h k q p z.
    line_here a.names.now semiring (direction_of a.direction) (name_of a.law) c.side_at.ensures v h q c.in_default.is (c.render_law.ensures u v h k p z)

pub returns : goal.returns
unfolding ascii
returns t c =
    let a = c.args in
    let x = side_of c.in-Some.side in
    λ u v h k q p z.
    let held = below_held a.names.now semiring (direction_of a.direction) (name_of a.law) c.side_at.ensures v h q c.in-Some.side c.in-Some.part c.in-Some.is in
    let inside = below_inside a.names.now semiring (direction_of a.direction) (name_of a.law) c.side_at.ensures v h q c.in-Some.side c.in-Some.part c.in-Some.is in
    line_below a.names.now semiring (direction_of a.direction) (name_of a.law) c.side_at.ensures v h q c.in-Some.side c.in-Some.part c.in-Some.is
    (c.render_congruence.ensures u v h k)
    (c.render_step.ensures (part x u) (part x v) (rw c.tail.ensures held) (c.part_of.ensures v k) inside (omega (arith, part_size x u, p)) (omega (arith, part_size x v, z)))
    c.put_byte.ensures
