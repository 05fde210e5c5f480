-- `match_rights` meets its contract. The loop's invariant: the first `r` right sides are told, and `waiting` of them wait.
use Rattle.std.proofs.Common.{◌≤◌}
use Rattle.search.proofs.Replying.{MatchedUpTo}
use Rattle.search.proofs.replies.match_rights.Given as goal

abbrev pub invariant-loop-r : goal.invariant-loop-r
invariant-loop-r l = (l.waiting ≤ l.r) × MatchedUpTo l.left l.rights.slots.now l.replies l.r l.waiting
