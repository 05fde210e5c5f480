-- `put_block` meets its contract: an arm for each reply.
use Rattle.text.proofs.Writing.{put_as}
use Rattle.text.proofs.Blocks.{known_direct, known_met, known_unmet}
use Rattle.text.proofs.answer.block.put_block.Goals as goal

pub returns-in-Direct : goal.returns-in-Direct
returns-in-Direct c =
    λ j slots known.
    put_as (known_direct known c.in-Direct.law c.in-Direct.is)
    (c.put_direct.ensures j known.sides)

pub returns-in-Noted : goal.returns-in-Noted
returns-in-Noted c =
    λ j slots known.
    c.put_met.ensures j slots known.sides
    (known_met known c.in-Noted.k c.in-Noted.is)

pub returns-in-Unnoted : goal.returns-in-Unnoted
returns-in-Unnoted c =
    λ j slots known.
    c.put_unmet.ensures j slots known.sides
    (known_unmet known c.in-Unnoted.is)
