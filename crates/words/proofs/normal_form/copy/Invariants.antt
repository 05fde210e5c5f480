-- `copy` meets its contract. The loop's invariant: what is left to store makes of the list what all numbers make of it.
use Rattle.std.proofs.Common.{◌≡◌, ◌+◌, drop}
use Rattle.std.proofs.lemmas.List.Edits.{sets}
use Rattle.words.proofs.normal_form.copy.Given as goal

abbrev pub invariant-loop-i : goal.invariant-loop-i
invariant-loop-i l = sets l.out (l.start + l.i) (drop l.i l.numbers) ≡ sets l.initial.out l.at l.numbers
