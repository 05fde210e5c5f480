-- `rename` stores one new number after another. The loop's invariant: what is left to store makes of the buffer what all make of it.
use Rattle.std.proofs.Common.{◌≡◌, drop}
use lib.Seq.{sets}
use Rattle.words.specs.RenameRun.{rename_run}
use Rattle.words.specs.Renaming.{new_of}
use Rattle.words.proofs.candidate.renaming.Renaming.rename.Given as goal

abbrev pub invariant-loop-i : goal.invariant-loop-i
invariant-loop-i l = let ys = rename_run (new_of l.self) l.run in sets l.out l.i (drop l.i ys) ≡ sets l.initial.out 0 ys
