-- The measure is how far the place is.
use Prim.Native.Nat.{◌-◌}
use Rattle.text.proofs.step.+put_sides.Given as goal

abbrev pub decreases-put_sides : goal.decreases-put_sides
decreases-put_sides l = l.place - l.from
