-- `ends` meets its contract. The loop's invariant: it is met for the numbers passed.
use Rattle.std.proofs.Common.{◌≡◌, take}
use Rattle.words.specs.Spelled.{ends}
use Rattle.words.proofs.normal_form.ends.Given as goal

abbrev pub invariant-loop-x : goal.invariant-loop-x
invariant-loop-x l = l.n ≡ ends (take l.x-index l.run)
