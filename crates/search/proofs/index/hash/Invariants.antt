-- `hash` meets its contract. The loop's invariant: the numbers before the next one are taken into `h`.
use Prim.Native.Nat.{◌<◌}
use mathlib.Core.Path.{◌≡◌}
use lib.ListN.{drop}
use Rattle.search.specs.Index.{hash}
use Rattle.search.proofs.index.hash.Given as goal

abbrev pub invariant-loop-x : goal.invariant-loop-x
invariant-loop-x l = (l.h < 4294967296) × (hash l.s 0 ≡ hash (drop l.x-index l.s) l.h)
