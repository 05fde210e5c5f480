-- `count_at` meets its contract: the count of a sum or product is put together from those of its parts.
use Rattle.std.proofs.Common.{◌≡◌, get_or, arith, rules}
use Rattle.words.proofs.Counting.{counts_past, counts_atom, counts_sum, counts_product}
use Rattle.words.proofs.count.+count_at.Goals as goal

pub returns-in_default : goal.returns-in_default
returns-in_default t c = counts_past (search rules)

pub returns-then-x-lt-ADD : goal.returns-then-x-lt-ADD
returns-then-x-lt-ADD t c =
    let e : c.in-Some.field-0.now ≡ get_or c.args.run.now c.args.at 0 = search rules in
    counts_atom (omega arith) (rw e at c.count_atom.ensures)

pub returns-then-x-eq-ADD : goal.returns-then-x-eq-ADD
returns-then-x-eq-ADD t c =
    let e : c.in-Some.field-0.now ≡ get_or c.args.run.now c.args.at 0 = search rules in
    counts_sum (omega arith) c.count_at-left.ensures c.count_at-right.ensures (omega arith) c.saturating_add-count.ensures

pub returns-else-x-eq-ADD : goal.returns-else-x-eq-ADD
returns-else-x-eq-ADD t c =
    let e : c.in-Some.field-0.now ≡ get_or c.args.run.now c.args.at 0 = search rules in
    counts_product (omega arith) c.count_at-left.ensures c.count_at-right.ensures (λ h. omega arith) c.saturating_mul-count.ensures
