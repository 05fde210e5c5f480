-- Each number stands behind the one before it, and the job and the answer behind the last.
use Rattle.std.proofs.Common.{arith, length, sym}
use Rattle.std.proofs.lemmas.Bool.{eqb-false}
use Rattle.replay.proofs.Reading.{end_more, parted}
use Rattle.replay.proofs.record.read.Goals as goal

pub returns : goal.returns
returns c =
    let e1 = c.number-entry.ensures.end in
    let e2 = end_more _ _ _ (omega arith) (omega arith) e1 c.number-slots.ensures.end in
    let e3 = end_more _ _ _ (omega arith) (omega arith) e2 c.number-room.ensures.end in
    let e4 = end_more _ _ _ (omega arith) (omega arith) e3 c.number-job_length.ensures.end in
    let e5 = end_more _ _ _ (omega arith) (omega arith) e4 c.number-stored.ensures.end in
    let e6 = end_more _ _ _ (omega arith) (omega arith) e5 c.number-answer_length.ensures.end in
    let parts = parted _ _ _ _ _ _ _ c.in_ok-job.ensures.cases c.in_ok-answer.ensures.cases in
    let filled = eqb-false (length c.args.list.now) 0 (sym c.if-is_empty.ensures) in
    (rw parts at e6, omega (arith, filled, c.in_ok-job.ensures.cases, c.in_ok-answer.ensures.cases))
