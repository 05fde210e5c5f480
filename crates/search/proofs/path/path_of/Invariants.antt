-- `path_of` meets its contract. The loop's invariant: slot `k` is `at` lines from the start, and the numbers from `at` on lead from it to the last slot.
use Prim.Native.Nat.{◌≤◌}
use mathlib.Core.Path.{◌≡◌}
use lib.ListN.{length}
use lib.Seq.{slice}
use Rattle.search.specs.Runs.{value_of}
use Rattle.search.proofs.Tracing.{Tracing}
use Rattle.search.proofs.path.path_of.Given as goal

abbrev pub invariant-loop-at : goal.invariant-loop-at
invariant-loop-at l = (l.count ≤ length l.path) × (length l.path ≡ length l.initial.path) × (l.count ≡ value_of l.ws l.last) × Tracing l.ws l.last l.k l.at (slice l.at l.count l.path)
