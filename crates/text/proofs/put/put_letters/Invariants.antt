-- `put_letters` meets its contract. The invariant: the letters before i are put.
use Prim.Native.Char.{code}
use mathlib.Core.List.{map}
use lib.ListN.{take}
use Rattle.text.specs.Bytes.{parted}
use Rattle.text.specs.Put.{Put}
use Rattle.text.proofs.WordTexts.{letter_text}
use Rattle.text.proofs.put.put_letters.Given as goal

abbrev pub invariant-loop-i : goal.invariant-loop-i
invariant-loop-i l = Put (parted (code " ") (map letter_text (take l.i l.letters))) l.initial.out l.at l.place l.out
