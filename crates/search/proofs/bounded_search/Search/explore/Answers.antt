use Rattle.std.proofs.Common.{arith, rules, refl, sym, ◌∙◌}
use Rattle.std.proofs.Math.Path.{ap}
use Rattle.search.specs.Resulted.{most_nodes}
use Rattle.search.proofs.Standing.{starts}
use Rattle.search.proofs.Searching.{ends, ends_limit, ends_far, opened, progress_noted, ends_all, ends_full, all_taken}
use Rattle.search.proofs.bounded_search.Search.explore.Goals as goal
use Rattle.search.proofs.bounded_search.Search.explore.Goals.{then-noted-i-via-then-noted-i, then-noted-i-via-else-noted-i+then-self-i}

pub outer-init : goal.outer-init
outer-init c = search (starts, rules)

pub loop-k-init : goal.loop-k-init
loop-k-init c =
    let o = c.outer in (
      omega (arith, c.if-noted-i.false),
      o.invariant.1,
      refl,
      search rules,
      opened o.invariant.4 (omega (arith, c.if-noted-i.false)) c.value_of-distance.ensures (omega (arith, c.if-self-i.false)) (omega (arith, c.if-self-distance.false)) (omega (arith, o.results.few, o.invariant.5)) (ap most_nodes (sym o.invariant.5)) refl c.open.ensures.opened,
    )

pub loop-k-preserved : goal.loop-k-preserved
loop-k-preserved c =
    let l = c.loop-k in
    let v = l.invariant in
    let t = c.take.ensures in (
      omega (arith, v.0),
      omega (arith, (rw c.in-Some.is at t).room),
      v.2,
      progress_noted v.0 c.loop-k-test.true t v.3 c.in-Some.is (omega (arith, c.if-missing-struck.false)),
      v.4,
    )

pub outer-preserved : goal.outer-preserved
outer-preserved c =
    let v = c.loop-k.invariant in
    let o = c.outer.invariant in
    (omega (arith, v.0), v.1, v.2 ∙ o.2, refl, all_taken v.3 v.4 (omega (arith, c.loop-k-test.false)), omega (arith, c.open.ensures.lent.3, o.5))

pub returns-after-outer : goal.returns-after-outer
returns-after-outer c = let o = c.outer in rw (o.invariant.2, o.invariant.3) (ends o.invariant.4 (omega (arith, o.invariant.1, c.outer-test.false)))

pub returns-then-noted-i : goal.returns-then-noted-i
returns-then-noted-i c =
    let o = c.outer in
    rw (o.invariant.2, o.invariant.3) (
    elim c.then-noted-i.branch [
      | then-noted-i-via-then-noted-i w ↦ ends o.invariant.4 w.if-noted-i.true
      | then-noted-i-via-else-noted-i+then-self-i w ↦ ends_limit o.invariant.4 w.if-self-i.true
    ]
    )

pub returns-then-self-distance : goal.returns-then-self-distance
returns-then-self-distance c =
    let o = c.outer in
    rw (o.invariant.2, o.invariant.3) (ends_far o.invariant.4 (omega (arith, c.if-noted-i.false)) c.value_of-distance.ensures c.if-self-distance.true)

pub returns-then-missing-struck : goal.returns-then-missing-struck
returns-then-missing-struck c =
    let v = c.loop-k.invariant in
    ends_all v.0 c.loop-k-test.true c.take.ensures v.3 v.4 c.in-Some.is c.if-missing-struck.true

pub returns-in_default : goal.returns-in_default
returns-in_default c =
    let v = c.loop-k.invariant in
    ends_full v.0 c.loop-k-test.true c.take.ensures v.3 v.4 c.in_default.is
