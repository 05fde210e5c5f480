-- `strike` meets its contract. The loop's invariant: of the first `r` right sides `count` are struck, the others are as they were.
use Rattle.std.proofs.Common.{◌≤◌}
use Rattle.search.proofs.Replying.{StruckUpTo}
use Rattle.search.proofs.replies.strike.Given as goal

abbrev pub invariant-loop-r : goal.invariant-loop-r
invariant-loop-r l = (l.count ≤ l.r) × StruckUpTo l.rights.slots.now l.s l.h l.k l.initial.replies l.replies l.r l.count
