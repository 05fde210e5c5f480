-- `may_meet` meets its contract, by what comparing the old part with the new one tells.
use native.Mathlib.Omega.{arith}
use Rattle.terms.proofs.Compared.{equals}
use Rattle.search.proofs.Spans.{old_within}
use Rattle.search.proofs.Meeting.{meets_new, meets_old}
use borrow.Author.Rules.{rules}
use Rattle.search.proofs.search.may_meet.Goals as goal

pub overflow_add-old : goal.overflow_add-old
overflow_add-old c = omega (arith, old_within _ c.of-old.ensures c.requires.3)

pub offset_bounds-s-old : goal.offset_bounds-s-old
offset_bounds-s-old c = omega (arith, old_within _ c.of-old.ensures c.requires.3)

pub slice_bounds-eq-end : goal.slice_bounds-eq-end
slice_bounds-eq-end c = omega (arith, old_within _ c.of-old.ensures c.requires.3)

pub returns-then-old-eq0 : goal.returns-then-old-eq0
returns-then-old-eq0 c = search (meets_new, rules)

pub returns-else-old-eq0 : goal.returns-else-old-eq0
returns-else-old-eq0 c =
    let h = c.requires in
    meets_old _ _ _ _ _ h.0 h.1 h.2 h.3 _ c.of-old.ensures _ c.if-old-eq0.false (equals c.eq.ensures)
