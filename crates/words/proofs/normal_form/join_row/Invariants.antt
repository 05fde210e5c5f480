-- `join_row` meets its contract. The loop's invariant: it is met for the slots passed.
use Rattle.std.proofs.Common.{◌≡◌, ◌≤◌}
use Rattle.words.specs.Multiply.{JoinsRow}
use Rattle.words.proofs.normal_form.join_row.Given as goal

abbrev pub invariant-loop-i : goal.invariant-loop-i
invariant-loop-i l =
    (l.i-iterator.end ≡ l.fn.slots.end) × (l.fn.slots.start ≤ l.i-iterator.start) × (l.fn.slots.start ≤ l.fn.slots.end → l.i-iterator.start ≤ l.fn.slots.end)
    × JoinsRow l.a l.words l.fn.slots.start l.i-iterator.start l.initial.out l.k l.next l.out
