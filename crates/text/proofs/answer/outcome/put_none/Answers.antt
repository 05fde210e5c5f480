-- `put_none` meets its contract.
use mathlib.Core.Path.{refl}
use mathlib.Core.List.{flatten}
use Rattle.text.specs.Bytes.{ascii}
use Rattle.text.specs.Bytes.{number}
use Rattle.text.specs.TermText.{write_term}
use Rattle.text.specs.Answer.{field, yes_no}
use Rattle.text.proofs.Writing.{then, put_last}
use Rattle.text.proofs.answer.outcome.put_none.Goals as goal

pub returns : goal.returns
unfolding flatten field ascii
returns c =
    λ s t left right.
    then (c.line.ensures (ascii "none") refl)
    (then (c.line-2.ensures (write_term s) (s, left, refl))
    (then (c.line-3.ensures (write_term t) (t, right, refl))
    (then (c.line-4.ensures (number c.args.expanded) refl) (put_last (c.line-5.ensures (yes_no c.args.cut) refl)))))
