-- `rename_slots` puts one word after another. The loop's invariant: the words in the first `i` slots are put, renamed, if there is room.
use Rattle.std.proofs.Common.{map}
use Rattle.words.specs.Multiply.{PutsWords}
use Rattle.words.specs.Spelled.{words_in}
use Rattle.words.specs.RenameRun.{rename_run}
use Rattle.words.specs.Renaming.{new_of}
use Rattle.words.proofs.candidate.renaming.Renaming.rename_slots.Given as goal

abbrev pub invariant-loop-i : goal.invariant-loop-i
invariant-loop-i l = PutsWords (map (rename_run (new_of l.self)) (words_in l.words l.i)) l.initial.slots 0 l.next l.slots
