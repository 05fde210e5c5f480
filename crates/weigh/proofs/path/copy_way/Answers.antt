-- `copy_way` meets its contract.
use Rattle.std.proofs.Common.{rules, arith, ◌∙◌}
use Rattle.std.proofs.Math.Path.{refl}
use Rattle.weigh.proofs.Copying.{left_large, copying_starts, copying_parted, copying_large, copying_on, copying_ends}
use Rattle.weigh.proofs.path.copy_way.Goals as goal

pub returns-in_default : goal.returns-in_default
returns-in_default c = left_large c.args.ws.now c.run_of.ensures c.args.way.now c.args.out.now c.in_default.ensures

pub loop-i-init : goal.loop-i-init
loop-i-init c =
    (refl, copying_starts c.args.ws.now (rw c.in-Some.ensures c.run_of.ensures) c.args.way.now c.note_start.new.ws c.note_start.ensures)

pub returns-in_default-origin_of : goal.returns-in_default-origin_of
returns-in_default-origin_of c =
    let l = c.loop-i in
    copying_parted c.args.ws.now c.args.way.now l.out l.i c.loop-i-test.true l.invariant.1 c.origin_of.ensures (search rules)

pub returns-in_default-of : goal.returns-in_default-of
returns-in_default-of c =
    let l = c.loop-i in
    copying_large c.args.ws.now c.args.way.now l.out l.i c.loop-i-test.true l.invariant.1 c.run_of-in-loop-i.ensures c.in_default-of.ensures

pub loop-i-preserved : goal.loop-i-preserved
loop-i-preserved c =
    let l = c.loop-i in (
      c.note.auto.ws ∙ l.invariant.0,
      copying_on c.args.ws.now c.args.way.now l.out l.i c.loop-i-test.true l.invariant.1 c.note.new.ws c.in-From.step c.origin_of.ensures (search rules)
          (rw c.in-Some-of.ensures c.run_of-in-loop-i.ensures) c.note.ensures,
    )

pub returns : goal.returns
returns c =
    let l = c.loop-i in
    copying_ends c.args.ws.now c.args.way.now l.out l.i (omega (arith, l.auto.i-end)) (omega (arith, c.loop-i-test.false)) l.invariant.1
