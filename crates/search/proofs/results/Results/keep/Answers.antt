-- `keep` meets its contract: the result is noted, or it is there already, or its slot is written and its number put in.
use native.Mathlib.Omega.{arith}
use Rattle.search.proofs.Keeping.{keeps_known, keeps_already, keeps_more}
use borrow.Author.Rules.{rules}
use Rattle.search.proofs.results.Results.keep.Goals as goal

pub returns-then-contains-clause-kept : goal.returns-then-contains-clause-kept
returns-then-contains-clause-kept c = search (keeps_known, rules)

pub returns-in_default-clause-kept : goal.returns-in_default-clause-kept
returns-in_default-clause-kept c =
    let a = c.args in
    keeps_already a.noted.slots.now a.noted.count a.run.numbers.now a.step a.self.now.slots.now a.self.now.order.now a.self.now.count c.contains.result c.contains.ensures
    c.if-contains.false c.spot.result c.spot.ensures c.in_default.is

pub returns-clause-kept : goal.returns-clause-kept
returns-clause-kept c =
    let a = c.args in
    keeps_more a.noted.slots.now a.noted.count a.run.numbers.now a.step a.self.now.slots.now a.self.now.order.now a.self.now.count c.contains.result c.contains.ensures
    c.if-contains.false c.spot.result c.spot.ensures c.in-Some.place c.in-Some.is (omega arith) c.write_slot.new.ws c.shift.new.s
    c.write_slot.ensures c.shift.ensures c.shift.auto.s
