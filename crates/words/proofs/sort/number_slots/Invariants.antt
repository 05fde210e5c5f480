-- `number_slots` meets its contract. The loop's invariant: what stands before `i` counts up to `i`.
use Rattle.std.proofs.Common.{◌≡◌, take}
use Rattle.words.specs.Rename.{count_from}
use Rattle.words.proofs.sort.number_slots.Given as goal

abbrev pub invariant-loop-i : goal.invariant-loop-i
invariant-loop-i l = take l.i l.order ≡ count_from l.i 0
