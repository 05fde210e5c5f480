-- `count_of` meets its contract: the term of a run starts at its first number.
use Rattle.words.proofs.Counting.{counts_words}
use Rattle.words.proofs.count.count_of.Goals as goal

pub returns : goal.returns
returns c = counts_words c.count_at.ensures
