-- `join` meets its contract. The loop's invariant: it is met for the left slots passed.
use Rattle.std.proofs.Common.{◌≡◌, ◌≤◌}
use Rattle.words.specs.Multiply.{Joins}
use Rattle.words.proofs.normal_form.join.Given as goal

abbrev pub invariant-loop-i : goal.invariant-loop-i
invariant-loop-i l =
    (l.i-iterator.end ≡ l.fn.left.end) × (l.fn.left.start ≤ l.i-iterator.start) × (l.fn.left.start ≤ l.fn.left.end → l.i-iterator.start ≤ l.fn.left.end)
    × Joins l.words l.fn.left.start l.i-iterator.start l.right.start l.right.end l.initial.out l.k l.next l.out
