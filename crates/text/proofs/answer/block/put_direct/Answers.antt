-- `put_direct` meets its contract.
use native.Mathlib.Omega.{arith}
use Rattle.terms.specs.Theory.Held.{size_of}
use Rattle.text.proofs.Answering.{whole_led}
use Rattle.text.proofs.answer.block.put_direct.Goals as goal

pub returns-in_default : goal.returns-in_default
returns-in_default c = λ j sides. absurd (omega (arith, c.in_default.ensures, size_of sides.left_run, sides.known.sides.small_left))

pub returns-in_default-of : goal.returns-in_default-of
returns-in_default-of c = λ j sides. absurd (omega (arith, c.in_default-of.ensures, size_of sides.right_run, sides.known.sides.small_right))

pub returns : goal.returns
returns c =
    λ j sides.
    c.put_path.ensures j _ 0 sides
    (whole_led c.args.law c.note_start.ensures c.note.ensures (rw c.in-Some.ensures sides.left_run) (rw c.in-Some-of.ensures sides.right_run)) (omega arith)
