-- `put_path` meets its contract.
use native.Mathlib.Omega.{arith}
use mathlib.Core.Path.{refl}
use mathlib.Core.List.{[]}
use Rattle.text.specs.Bytes.{ascii}
use Rattle.text.proofs.Answering.{path_there, path_walk}
use Rattle.text.proofs.Outcomes.{proved_put}
use Rattle.text.proofs.answer.block.put_path.Goals as goal

pub returns-in_default : goal.returns-in_default
returns-in_default c = λ j xs n sides led short. absurd (path_there c.path_of.ensures led (omega (arith, c.path_of.auto.path, short)) c.in_default.is)

pub returns-in-Some : goal.returns-in-Some
unfolding ascii
returns-in-Some c =
    λ j xs n sides led short.
    proved_put j xs _ n
    (c.put_proved.ensures j.left j.right xs [] sides.left_run sides.right_run sides.known.sides.small_left sides.known.sides.small_right
    (path_walk c.path_of.ensures led (omega (arith, c.path_of.auto.path, short)) c.in-Some.is) refl)
