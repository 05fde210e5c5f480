-- `fill` meets its contract.
use native.Mathlib.Omega.{arith}
use lib.ListN.{length-set}
use Rattle.search.proofs.Spans.{old_within}
use Rattle.search.proofs.Filling.{letter_long, letter_put, number_long, number_put, fill_ends}
use borrow.Author.Rules.{rules}
use Rattle.search.proofs.line.fill.Goals.{then-x-lt-LETTERS+else-out-m, else-x-lt-LETTERS+else-out-m-2}
use Rattle.search.proofs.line.fill.Goals as goal

pub returns-then-out-m : goal.returns-then-out-m
returns-then-out-m c = search (letter_long, old_within, rules)

pub overflow_add-span : goal.overflow_add-span
overflow_add-span c = omega (arith, old_within _ c.of-span.ensures c.requires.1)

pub offset_bounds-s-span : goal.offset_bounds-s-span
offset_bounds-s-span c = omega (arith, old_within _ c.of-span.ensures c.requires.1)

pub slice_bounds-append-end : goal.slice_bounds-append-end
slice_bounds-append-end c = omega (arith, old_within _ c.of-span.ensures c.requires.1)

pub returns-then-out-m-2 : goal.returns-then-out-m-2
returns-then-out-m-2 c = search (number_long, rules)

pub loop-x-preserved : goal.loop-x-preserved
loop-x-preserved c = elim c.if-x-lt-LETTERS.branch [
  | then-x-lt-LETTERS+else-out-m w ↦ rw (w.m-is, w.out-is) (omega arith, omega arith, search (letter_put, rules))
  | else-x-lt-LETTERS+else-out-m-2 w ↦ rw (w.m-is, w.out-is) (omega arith, simp length-set (omega arith), search (number_put, rules))
]

pub returns : goal.returns
returns c = search (fill_ends, rules)
