-- `put_term` meets its contract. The invariant: the items before i are put.
use Prim.Native.Char.{code}
use mathlib.Core.List.{map}
use lib.ListN.{take}
use Rattle.text.specs.Bytes.{parted}
use Rattle.text.specs.Items.{item}
use Rattle.text.specs.Writer.{Writes}
use Rattle.text.proofs.put.put_term.Given as goal

abbrev pub invariant-loop-i : goal.invariant-loop-i
invariant-loop-i l = Writes (parted (code " ") (map item (take l.i l.run))) l.initial.w l.w
