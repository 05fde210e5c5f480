-- `firsts` meets its contract: each number is the one that the law list makes.
use Rattle.terms.specs.Term.{same, order}
use Rattle.terms.specs.Run.{run}
use Rattle.search.specs.Law.{semiring}
use Rattle.search.specs.Match.{unbound, bind, if_same, meet, match, join, put}
use Rattle.search.specs.Line.{from, to, rewrite}
use Rattle.search.specs.Coded.{law_at}
use Rattle.search.specs.Bound.{first_number}
use Rattle.search.proofs.Firsts.{firsts_told}
use Rattle.search.proofs.line.firsts.Goals as goal

pub returns-in-AddAssoc : goal.returns-in-AddAssoc
unfolding first_number rewrite match meet bind if_same same order put join unbound from to law_at semiring run
returns-in-AddAssoc c = firsts_told _ _ c.in-AddAssoc.is

pub returns-in-AddComm : goal.returns-in-AddComm
unfolding first_number rewrite match meet bind if_same same order put join unbound from to law_at semiring run
returns-in-AddComm c = firsts_told _ _ c.in-AddComm.is

pub returns-in-AddZeroRight : goal.returns-in-AddZeroRight
unfolding first_number rewrite match meet bind if_same same order put join unbound from to law_at semiring run
returns-in-AddZeroRight c = firsts_told _ _ c.in-AddZeroRight.is

pub returns-in-MulAssoc : goal.returns-in-MulAssoc
unfolding first_number rewrite match meet bind if_same same order put join unbound from to law_at semiring run
returns-in-MulAssoc c = firsts_told _ _ c.in-MulAssoc.is

pub returns-in-MulOneLeft : goal.returns-in-MulOneLeft
unfolding first_number rewrite match meet bind if_same same order put join unbound from to law_at semiring run
returns-in-MulOneLeft c = firsts_told _ _ c.in-MulOneLeft.is

pub returns-in-MulOneRight : goal.returns-in-MulOneRight
unfolding first_number rewrite match meet bind if_same same order put join unbound from to law_at semiring run
returns-in-MulOneRight c = firsts_told _ _ c.in-MulOneRight.is

pub returns-in-LeftDistrib : goal.returns-in-LeftDistrib
unfolding first_number rewrite match meet bind if_same same order put join unbound from to law_at semiring run
returns-in-LeftDistrib c = firsts_told _ _ c.in-LeftDistrib.is

pub returns-in-RightDistrib : goal.returns-in-RightDistrib
unfolding first_number rewrite match meet bind if_same same order put join unbound from to law_at semiring run
returns-in-RightDistrib c = firsts_told _ _ c.in-RightDistrib.is

pub returns-in-ZeroMul : goal.returns-in-ZeroMul
unfolding first_number rewrite match meet bind if_same same order put join unbound from to law_at semiring run
returns-in-ZeroMul c = firsts_told _ _ c.in-ZeroMul.is

pub returns-in-MulZero : goal.returns-in-MulZero
unfolding first_number rewrite match meet bind if_same same order put join unbound from to law_at semiring run
returns-in-MulZero c = firsts_told _ _ c.in-MulZero.is
