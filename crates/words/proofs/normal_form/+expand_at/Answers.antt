-- `expand_at` meets its contract: the words of a sum or product are put together from those of its parts.
use Rattle.std.proofs.Common.{◌≡◌, get_or, ◌∙◌, arith, rules}
use Rattle.words.proofs.Expanded.{expands_past, expands_atom, expands_sum, expands_product}
use Rattle.words.proofs.normal_form.+expand_at.Goals as goal

pub returns-in_default : goal.returns-in_default
returns-in_default t c = expands_past (search rules)

pub returns-then-x-lt-ADD : goal.returns-then-x-lt-ADD
returns-then-x-lt-ADD t c =
    let e : c.in-Some.field-0.now ≡ get_or c.args.run.now c.args.at 0 = search rules in
    expands_atom (omega arith) (rw e at c.put_atom.ensures)

pub returns-then-x-eq-ADD : goal.returns-then-x-eq-ADD
returns-then-x-eq-ADD t c =
    let e : c.in-Some.field-0.now ≡ get_or c.args.run.now c.args.at 0 = search rules in
    expands_sum c.expand_at-left.ensures c.expand_at.ensures c.expand_at-left.auto.other (omega arith)

pub returns : goal.returns
returns t c =
    let e : c.in-Some.field-0.now ≡ get_or c.args.run.now c.args.at 0 = search rules in
    let kept = c.expand_at-left-2.auto.other in
    expands_product c.expand_at-left-2.ensures c.expand_at-right.ensures kept (c.expand_at-right.auto.other ∙ kept) (omega arith) c.join.ensures
