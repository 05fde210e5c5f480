-- `takes_first` meets its contract: where both lists have a next, by the order of these two slots.
use Rattle.std.proofs.Common.{◌≡◌, ◌∙◌, get_or, sym, rules}
use Rattle.words.proofs.Merging.{no_first, no_second, next_slots}
use Rattle.words.proofs.sort.takes_first.Goals as goal

pub returns-in_default : goal.returns-in_default
returns-in_default c = no_first _ _ _ (search rules)

pub returns-in_default-first : goal.returns-in_default-first
returns-in_default-first c = no_second _ _ _ (search rules) (search rules)

pub returns : goal.returns
returns c =
    let d : c.in-Some.field-0.now ≡ get_or c.args.a.now 0 0 = search rules in
    let e : c.in-Some-first.field-0.now ≡ get_or c.args.b.now 0 0 = search rules in
    rw (d, e) at c.in_order.ensures ∙ sym (next_slots c.args.words.now c.args.a.now c.args.b.now 0 0 (search rules) (search rules))
