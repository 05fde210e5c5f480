-- Whether two terms have the same words, the quick way.
use Rattle.std.specs.Prelude.{Bool, ◌&&◌, eqb}
use Rattle.std.proofs.Math.Dec.{compare_is_eq}
use Rattle.terms.specs.Compare.{lexicographic}
use Rattle.terms.specs.Term.{Term}
use Rattle.words.specs.Words.{order_lists, words_with, words}
use Rattle.words.specs.Counts.{count}

-- no as soon as their counts differ; otherwise as the lists say
unfoldable pub same_words : Term → Term → Bool
unfolding count words_with lexicographic
same_words s t = eqb (count s) (count t) && compare_is_eq (order_lists (words s) (words t))
