-- `put_unmet` meets its contract: an arm for each reason to stop.
use mathlib.Core.Logic.{⊎_elim}
use mathlib.Core.Path.{sym, ap}
use Rattle.text.specs.Answer.{refused, printed}
use Rattle.text.proofs.Outcomes.{none_put}
use Rattle.text.proofs.Writing.{put_as}
use Rattle.text.proofs.Blocks.{unmet_some, unmet_full, unmet_over}
use Rattle.text.proofs.answer.block.put_unmet.Goals as goal

pub returns-in-Over : goal.returns-in-Over
returns-in-Over c =
    λ j slots sides unmet.
    put_as (unmet_over sides unmet c.in-Over.is)
    (none_put j _ _ (unmet.cut_is c.in-Over.is) (c.put_none.ensures j.left j.right sides.left_run sides.right_run))

pub returns-in-All : goal.returns-in-All
returns-in-All c =
    λ j slots sides unmet.
    ⊎_elim
    (λ all. absurd (unmet_some sides unmet all))
    (λ full. put_as (unmet_full sides unmet full) (c.put.ensures (printed (refused 7)) (ap (λ n. printed (refused n)) (sym c.from.ensures))))
    c.in-All.is
