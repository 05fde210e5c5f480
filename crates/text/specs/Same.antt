-- SAME's answer: the first line of WORDS', alone.
use Rattle.std.specs.Prelude.{ℕ}
use mathlib.Core.List.{List}
use Rattle.words.specs.Same.{same_words}
use Rattle.text.specs.Answer.{Answer, ◌>>=◌, fitting}
use Rattle.text.specs.Job.{read_job}
use Rattle.text.specs.Words.{same_text}

unfoldable pub same_entry : (job : List ℕ) (room : ℕ) → Answer (List ℕ)
unfolding ◌>>=◌ read_job same_words same_text fitting
same_entry bs room = do
  j ← read_job bs
  fitting room (same_text (same_words j.left j.right))
