-- `put_term` meets its contract: the items are put one after the other.
use Prim.Native.Char.{code}
use Rattle.text.specs.Items.{item}
use Rattle.text.proofs.Writing.{then, same_output}
use Rattle.text.proofs.Items.{put_no_piece, put_piece, put_whole}
use Rattle.text.proofs.put.put_term.Goals as goal

pub loop-i-init : goal.loop-i-init
loop-i-init c = put_no_piece (code " ") item c.args.run.now c.args.w.now

pub loop-i-preserved : goal.loop-i-preserved
loop-i-preserved c = put_piece (code " ") item c.args.run.now c.loop-i.i c.loop-i-test.true c.loop-i.invariant (then c.put_gap.ensures c.put_item.ensures)

pub returns-clause-same : goal.returns-clause-same
returns-clause-same c = same_output c.loop-i.invariant

pub returns-clause-text : goal.returns-clause-text
returns-clause-text c = λ t e. put_whole c.args.run.now c.loop-i.i t c.loop-i-test.false c.loop-i.invariant e
