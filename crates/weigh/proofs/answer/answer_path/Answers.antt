-- `answer_path` meets its contract: the path is copied and printed.
use Rattle.std.proofs.Common.{rules, ◌∙◌}
use Rattle.std.proofs.Math.Path.{refl}
use Rattle.weigh.specs.Slots.{weighed_at}
use Rattle.weigh.proofs.Answering.{held_total, path_there, path_walk}
use Rattle.weigh.proofs.answer.answer_path.Goals as goal

pub returns-in_default : goal.returns-in_default
returns-in_default c = λ j es n sides held. absurd (path_there sides.known held c.copy_path.ensures c.copy_path.auto.path (search rules))

pub returns : goal.returns
returns c =
    λ j es n sides held.
    c.answered.ensures _ (
      j,
      (weighed_at es c.args.last).trail,
      n,
      sides,
      path_walk sides.known held c.copy_path.ensures c.copy_path.auto.path (search rules),
      c.value_of.ensures ∙ held_total sides.known held,
      refl,
    )
