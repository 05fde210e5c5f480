-- `small_numbers` writes one new number after another. The loop's invariant: the table has those by the names from `i` on.
use Rattle.std.proofs.Common.{drop}
use Rattle.words.specs.Rename.{renamed}
use Rattle.words.proofs.Tabled.{HasNew}
use Rattle.words.proofs.candidate.renaming.small_numbers.Given as goal

abbrev pub invariant-loop-i : goal.invariant-loop-i
invariant-loop-i l = HasNew (renamed (drop l.i l.names) (drop l.i l.numbers)) l.table
