-- The measure is what is left of the list.
use Rattle.std.proofs.Common.{◌-◌, length}
use Rattle.terms.proofs.term.+extent_of.Given as goal

abbrev pub decreases-extent_of : goal.decreases-extent_of
decreases-extent_of l = length l.s.now - l.at
