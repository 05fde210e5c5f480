-- `rank_of` counts one word after another, or passes some over. The loop's invariant: the words in the first `i` slots are counted.
use Rattle.std.proofs.Common.{◌-◌, ◌/◌, ◌≤◌, length}
use Rattle.words.specs.RenameRun.{rename_run}
use Rattle.words.specs.Renaming.{new_of}
use Rattle.words.specs.Rank.{first_word}
use Rattle.words.proofs.Ranked.{Counted}
use Rattle.words.proofs.candidate.renaming.Renaming.rank_of.Given as goal

abbrev pub invariant-loop-i : goal.invariant-loop-i
invariant-loop-i l = (l.i ≤ length l.words / 17) × Counted (rename_run (new_of l.self)) l.words (first_word l.run) l.i l.counted

abbrev pub decreases-loop-i : goal.decreases-loop-i
decreases-loop-i l = length l.words / 17 - l.i
