-- `compare_first` meets its contract. The loop's invariant: word and run from `i` on compare as the whole ones do.
use Rattle.std.proofs.Common.{◌≡◌, drop}
use Rattle.words.specs.Words.{order_words}
use Rattle.words.specs.RenameRun.{rename_run}
use Rattle.words.specs.Renaming.{new_of}
use Rattle.words.specs.Rank.{first_word}
use Rattle.words.proofs.candidate.renaming.Renaming.compare_first.Given as goal

abbrev pub invariant-loop-i : goal.invariant-loop-i
invariant-loop-i l =
    order_words (rename_run (new_of l.self) (drop l.i l.word)) (first_word (drop l.i l.run))
    ≡ order_words (rename_run (new_of l.self) l.word) (first_word l.run)
