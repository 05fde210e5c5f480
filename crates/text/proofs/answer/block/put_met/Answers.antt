-- `put_met` meets its contract.
use Rattle.text.proofs.Writing.{put_as}
use Rattle.text.proofs.Blocks.{met_lines, met_led, met_not_first, met_short, met_block}
use Rattle.text.proofs.answer.block.put_met.Goals as goal

pub returns-in_default : goal.returns-in_default
returns-in_default c = λ j slots sides met. absurd (met_not_first sides met c.origin_of.ensures c.in_default.is)

pub returns-in-From : goal.returns-in-From
returns-in-From c =
    let f = c.in-From.step in
    let O = c.origin_of.ensures in
    λ j slots sides met.
    put_as (met_block sides met O f c.in-From.is)
    (c.put_path.ensures j (met_lines sides met) _ sides (met_led sides met) (met_short sides met O f c.in-From.is))
