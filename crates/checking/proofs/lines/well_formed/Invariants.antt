-- `well_formed` meets its contract: the lines passed are well formed, so that what is left decides.
use Rattle.std.proofs.Common.{◌≡◌, length}
use Rattle.terms.specs.Numbers.{is_some}
use Rattle.checking.specs.LineRead.{lines_from}
use Rattle.checking.proofs.lines.well_formed.Given as goal

abbrev pub invariant-loop-more : goal.invariant-loop-more
invariant-loop-more l = is_some (lines_from l.text) ≡ is_some (lines_from l.rest)

abbrev pub decreases-loop-more : goal.decreases-loop-more
decreases-loop-more l = length l.rest
