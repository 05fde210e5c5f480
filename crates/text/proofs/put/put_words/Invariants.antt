-- `put_words` meets its contract. The invariant: the words before the rest are put, and counted.
use Prim.Native.Nat.{◌+◌, ◌≤◌}
use mathlib.Core.Path.{◌≡◌}
use mathlib.Core.List.{List}
use lib.ListN.{length}
use Rattle.words.specs.Words.{Word}
use Rattle.words.specs.Spelled.{spelled}
use Rattle.text.specs.Writer.{SameOutput}
use Rattle.text.proofs.WordTexts.{Before}
use Rattle.text.proofs.put.put_words.Given as goal

abbrev pub invariant-loop-end : goal.invariant-loop-end
invariant-loop-end l =
    (l.count + length l.rest ≤ length l.list)
    × SameOutput l.initial.w l.w
    × ((ws : List Word) → l.list ≡ spelled ws → Before ws l.rest l.count l.initial.w l.w)

abbrev pub decreases-loop-end : goal.decreases-loop-end
decreases-loop-end l = length l.rest
