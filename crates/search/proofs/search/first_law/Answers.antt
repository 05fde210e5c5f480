-- `first_law` meets its contract.
use mathlib.Core.Path.{refl}
use Rattle.search.proofs.Directing.{passed_over, law_taken, no_law}
use Rattle.search.proofs.search.first_law.Goals as goal

pub returns-in-Bound : goal.returns-in-Bound
returns-in-Bound c = let l = c.loop-law in law_taken _ _ l.law-index l.invariant _ _ c.loop-law-test.true refl c.bind_sides.ensures _ c.in-Bound.is

pub loop-law-preserved : goal.loop-law-preserved
loop-law-preserved c = let l = c.loop-law in passed_over _ _ l.law-index l.invariant _ _ c.loop-law-test.true refl c.bind_sides.ensures c.in_default.is

pub returns : goal.returns
returns c = let l = c.loop-law in no_law _ _ l.law-index l.invariant c.loop-law-test.false
