-- `overwrite` meets its contract. The loop's invariant: the first `i` items are written.
use mathlib.Core.Path.{◌≡◌}
use lib.ListN.{take}
use Rattle.terms.proofs.copy.overwrite.Given as goal

abbrev pub invariant-loop-i : goal.invariant-loop-i
invariant-loop-i g l = take l.i l.out ≡ take l.i l.items
