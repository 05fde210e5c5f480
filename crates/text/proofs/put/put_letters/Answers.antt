-- `put_letters` meets its contract: the letters are put one after the other.
use Prim.Native.Char.{code}
use mathlib.Core.Path.{ap}
use mathlib.Core.List.{map, ◌++◌}
use native.Mathlib.Omega.{arith}
use lib.Seq.{take_all}
use Rattle.text.specs.Bytes.{parted}
use Rattle.text.specs.TermText.{write_letter}
use Rattle.text.specs.Items.{gap}
use Rattle.text.proofs.Overlay.{then, put_as, put_none}
use Rattle.text.proofs.Items.{pieces_more}
use Rattle.text.proofs.WordTexts.{letter_text}
use Rattle.text.proofs.put.put_letters.Goals as goal

pub loop-i-init : goal.loop-i-init
unfolding parted
loop-i-init c = put_none c.args.out.now c.args.at (omega arith) (omega arith)

pub loop-i-preserved : goal.loop-i-preserved
loop-i-preserved c =
    put_as (pieces_more (code " ") letter_text c.args.letters.now c.loop-i.i c.loop-i-test.true)
    (then c.loop-i.invariant (put_as (ap (λ k. gap (code " ") c.loop-i.i ++ write_letter k) c.saturating_sub.ensures) c.put_next_letter-place.ensures))

pub returns : goal.returns
returns c = put_as (ap (λ xs. parted (code " ") (map letter_text xs)) (take_all c.loop-i.i c.args.letters.now c.loop-i-test.false)) c.loop-i.invariant
