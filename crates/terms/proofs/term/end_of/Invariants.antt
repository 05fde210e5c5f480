-- `end_of` meets its contract. The loop's invariant: with `need` terms still to come from `i` on, they end where the term at `at` does.
use Prim.Native.Nat.{◌≤◌, ◌+◌}
use mathlib.Core.Path.{◌≡◌}
use lib.ListN.{drop}
use Rattle.terms.specs.Numbers.{skip, end_at}
use Rattle.terms.proofs.term.end_of.Given as goal

abbrev pub invariant-loop-i : goal.invariant-loop-i
invariant-loop-i l = (l.need + l.at ≤ l.i + 1) × (l.i + skip (drop l.i l.s) l.need ≡ end_at l.s l.at)
