-- `answered` meets its contract: measured on an output of no bytes, then written.
use Rattle.text.proofs.Measured.{fits_behind, lacks_behind}
use Rattle.text.proofs.answer.answered.Goals as goal

pub returns-then-out-n : goal.returns-then-out-n
returns-then-out-n g c = λ t h. lacks_behind c.args.out.now (c.put_in_front-n.ensures t h) c.if-out-n.true

pub returns : goal.returns
returns g c = λ t h. fits_behind c.args.out.now (c.put_in_front-n.ensures t h) c.if-out-n.false (c.put_in_front.ensures t h)
