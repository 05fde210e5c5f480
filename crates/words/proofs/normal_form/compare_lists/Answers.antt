-- `compare_lists` tells order and place by the first number that differs.
use Rattle.std.proofs.Common.{◌∙◌, ap}
use Rattle.words.specs.Spelled.{ends}
use Rattle.words.proofs.Partings.{parted_at, parted_nowhere}
use Rattle.words.proofs.normal_form.compare_lists.Goals as goal

pub returns-in-Some : goal.returns-in-Some
returns-in-Some c =
    parted_at c.in-Some.k c.in-Some.ensures c.get.result c.get-in-Some.result c.get.ensures.lookup c.get-in-Some.ensures.lookup c.cmp.result c.cmp.ensures
    (c.ends.ensures ∙ ap ends c.front.ensures)

pub returns-in-None : goal.returns-in-None
returns-in-None c = parted_nowhere c.in-None.ensures c.ends-in-None.ensures
