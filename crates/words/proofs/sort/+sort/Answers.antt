-- `sort` meets its contract: two slots are compared; of more both halves are sorted by it, then merged.
use Rattle.std.proofs.Common.{◌/◌, ◌∙◌, sym, length, arith, rules}
use Rattle.words.proofs.Sorting.{short_sorted, pair_kept, pair_exchanged, halves_sorted}
use Rattle.words.proofs.sort.+sort.Goals as goal

pub returns-then-n-lt2 : goal.returns-then-n-lt2
returns-then-n-lt2 t c = search (short_sorted, rules)

pub returns-then-not-in_order : goal.returns-then-not-in_order
returns-then-not-in_order t c =
    rw c.swap.ensures.after (pair_exchanged c.args.words.now c.args.order.now (omega arith) (sym c.in_order.ensures ∙ c.if-not-in_order.true))

pub returns-else-not-in_order : goal.returns-else-not-in_order
returns-else-not-in_order t c = pair_kept c.args.words.now c.args.order.now (omega arith) (sym c.in_order.ensures ∙ c.if-not-in_order.false)

pub returns : goal.returns
returns t c =
    let a = c.args in
    halves_sorted a.order.now c.sort.new.order (length a.order.now / 2) (omega arith) c.sort.auto.order a.words.now c.sort-2.new.order
    c.merge_parts.new.order c.sort.ensures c.sort-2.ensures c.merge_parts.ensures
