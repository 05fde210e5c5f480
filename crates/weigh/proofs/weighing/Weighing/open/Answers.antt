-- `open` meets its contract.
use Rattle.std.specs.Prelude.{◌+◌, ◌≡◌, length, take}
use Rattle.std.proofs.Common.{arith, refl, ◌∙◌}
use lib.Seq.{length-take-le}
use Rattle.search.proofs.InTurn.{place_lines}
use Rattle.weigh.proofs.Turns.{turns_none, turns_more, turns_full, opens_all, opens_none}
use Rattle.weigh.proofs.weighing.Weighing.open.Goals as goal

pub returns-in_default : goal.returns-in_default
returns-in_default c = opens_none c.args.self.limits c.requires.slots.0 c.run_of.ensures c.in_default.ensures

pub loop-place-init : goal.loop-place-init
loop-place-init c = turns_none place_lines c.requires.slots.0

pub returns-in_err-count : goal.returns-in_err-count
returns-in_err-count c =
    let m = c.args.self.limits in
    let l = c.loop-place in
    let e : length (take m.size l.out) ≡ m.size = length-take-le m.size l.out (omega arith) in
    let A = turns_more place_lines l.place l.invariant e (rw c.in_err-count.was at c.lines_at.ensures) in
    rw c.from_residual.ensures (
    opens_all m (length c.numbers.result.now) refl c.run_of.result.now c.run_of.ensures (c.numbers.ensures.is ∙ c.in-Some.ensures.0)
    (turns_full place_lines (l.place + 1) (length c.numbers.result.now) (omega arith) A))

pub loop-place-preserved : goal.loop-place-preserved
loop-place-preserved c =
    let l = c.loop-place in
    let e : length (take c.args.self.limits.size l.out) ≡ c.args.self.limits.size = length-take-le c.args.self.limits.size l.out (omega arith) in
    turns_more place_lines l.place l.invariant e (rw c.in_ok-count.was at c.lines_at.ensures)

pub returns : goal.returns
returns c =
    let l = c.loop-place in
    opens_all c.args.self.limits l.place (omega arith) c.run_of.result.now c.run_of.ensures (c.numbers.ensures.is ∙ c.in-Some.ensures.0) l.invariant
