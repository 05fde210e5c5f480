-- `depth` meets its contract: it is the depth of the term at the front.
use Rattle.terms.proofs.Depths.{deep}
use Rattle.terms.proofs.term.depth.Goals as goal

pub returns : goal.returns
returns c = deep c.extent_of.ensures.deep
