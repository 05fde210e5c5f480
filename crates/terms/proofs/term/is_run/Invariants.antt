-- `is_run` meets its contract. The loop's invariant: the list from a number on spells `need` terms exactly if the whole spells one.
use Prim.Native.Nat.{◌≤◌, ◌+◌}
use mathlib.Core.Path.{◌≡◌}
use lib.ListN.{drop}
use Rattle.terms.proofs.Spelled.{spells}
use Rattle.terms.proofs.term.is_run.Given as goal

abbrev pub invariant-loop-x : goal.invariant-loop-x
invariant-loop-x l = (l.need ≤ l.x-index + 1) × (spells (drop l.x-index l.s) l.need ≡ spells l.s 1)
