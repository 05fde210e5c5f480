-- `new_number` tells letters from the other numbers.
use Rattle.std.proofs.Common.{◌∙◌}
use Rattle.words.proofs.Renamed.{letter_renamed, other_stays}
use Rattle.words.proofs.candidate.renaming.Renaming.new_number.Goals as goal

pub returns-then-x-lt-ZERO : goal.returns-then-x-lt-ZERO
returns-then-x-lt-ZERO c = c.new_name.ensures ∙ letter_renamed _ _ c.if-x-lt-ZERO.true

pub returns-else-x-lt-ZERO : goal.returns-else-x-lt-ZERO
returns-else-x-lt-ZERO c = other_stays _ _ c.if-x-lt-ZERO.false
