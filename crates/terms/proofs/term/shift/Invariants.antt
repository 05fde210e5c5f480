-- `shift` meets its contract. The loop's invariant: to put in what is carried at `i` is still what is to be done.
use mathlib.Core.Path.{◌≡◌}
use Rattle.terms.specs.Numbers.{put_in}
use Rattle.terms.proofs.term.shift.Given as goal

abbrev pub invariant-loop-i : goal.invariant-loop-i
invariant-loop-i l = put_in l.i l.carried l.s ≡ put_in l.at l.x l.initial.s
