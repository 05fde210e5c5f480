-- `same_words` meets its contract: counts that differ answer for the lists, and where they agree lists may be made.
use Rattle.words.proofs.Counting.{counts_apart, counts_agree}
use Rattle.words.proofs.same.same_words.Goals as goal

pub same_lists-requires : goal.same_lists-requires
same_lists-requires c = counts_agree c.count_of.ensures c.count_of-2.ensures c.if-count_of.true

pub returns-else-count_of : goal.returns-else-count_of
returns-else-count_of c = counts_apart c.count_of.ensures c.count_of-2.ensures c.if-count_of.false
