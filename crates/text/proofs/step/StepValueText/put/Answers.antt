-- A line's text meets its contract: law, direction, place and result one after the other.
use Rattle.text.specs.Bytes.{ascii}
use mathlib.Core.Path.{sym}
use Rattle.text.proofs.Writing.{then, put_as}
use Rattle.text.proofs.StepTexts.{put_value}
use Rattle.text.proofs.step.StepValueText.put.Goals as goal

pub returns : goal.returns
unfolding ascii
returns c = λ t h.
    let l = c.args.self.now in
    put_as (sym h.5)
    (put_value l.step h.0 h.1 h.3
    (then (then (then (then (then (then (put_as c.law_name.ensures c.put_bytes.ensures) c.put_byte.ensures) (put_as c.direction_name.ensures c.put_bytes-2.ensures))
    c.put_bytes-3.ensures) (c.put_place.ensures h.0 h.2 h.3.inside)) c.put_bytes-4.ensures) (c.put_term.ensures.text h.1.result h.4)))
