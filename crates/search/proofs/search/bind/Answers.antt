-- `bind` meets its contract.
use Rattle.search.proofs.Matching.{matching_starts, letter_bound, end_within, bound_within, letter_unbound, node_matched, node_unmatched, node_absent, matching_ends}
use borrow.Author.Rules.{rules}
use Rattle.search.proofs.search.bind.Goals.{else-i-s-via-then-i-s+else-s-i, else-i-s-via-else-i-s, then-x-lt-LETTERS+else-not-may_meet, else-x-lt-LETTERS+then-i-s+then-s-i}
use Rattle.search.proofs.search.bind.Goals as goal

pub loop-x-init : goal.loop-x-init
loop-x-init c = search (matching_starts, rules)

pub returns-then-not-may_meet : goal.returns-then-not-may_meet
returns-then-not-may_meet c = search (letter_unbound, rules)

pub returns-else-i-s : goal.returns-else-i-s
returns-else-i-s c = elim c.else-i-s.branch [
  | else-i-s-via-then-i-s+else-s-i w ↦ search (node_unmatched, rules)
  | else-i-s-via-else-i-s w ↦ search (node_absent, rules)
]

pub loop-x-preserved : goal.loop-x-preserved
loop-x-preserved c = elim c.if-x-lt-LETTERS.branch [
  | then-x-lt-LETTERS+else-not-may_meet w ↦ rw (w.i-is, w.bound-is) (
    search (end_within, rules),
    bound_within _ _ _ _ _ _ _ w.may_meet.ensures w.if-not-may_meet.false w.with-bound.ensures,
    search (letter_bound, rules),
  )
  | else-x-lt-LETTERS+then-i-s+then-s-i w ↦ rw (w.i-is, w.bound-is) (search rules, search rules, search (node_matched, rules))
]

pub returns : goal.returns
returns c = search (matching_ends, rules)
