-- `way_to` meets its contract. The loop's invariant: the slots in `path` from `at` on lead from slot `k` to the last slot.
use Rattle.std.specs.Prelude.{◌≤◌, ◌≡◌, length}
use Rattle.weigh.proofs.Copying.{Reaching}
use Rattle.weigh.proofs.path.way_to.Given as goal

abbrev pub invariant-loop-step : goal.invariant-loop-step
invariant-loop-step l = (l.at ≤ length l.path) × (length l.path ≡ length l.initial.path) × Reaching l.ws l.last l.k l.at l.path

abbrev pub decreases-loop-step : goal.decreases-loop-step
decreases-loop-step l = l.at
