-- `explore` meets its contract. The outer loop's invariant: the search goes on from the `i`-th of `noted` terms. The inner loop's: a term is
-- open, and the first of its results are taken, as many as the loop has gone through.
use Rattle.std.proofs.Common.{◌≤◌, ◌<◌, ◌≡◌}
use Rattle.std.specs.Prelude.{length}
use Rattle.search.specs.Law.{semiring}
use Rattle.search.specs.Resulted.{most_nodes}
use Rattle.search.specs.declared.bounded_search.Stop.TheVariants.{Over}
use Rattle.search.proofs.Standing.{Standing, Opened, Progress}
use Rattle.search.proofs.bounded_search.Search.explore.Given as goal

abbrev pub invariant-loop-k : goal.invariant-loop-k
invariant-loop-k l =
    let s = l.self in
    let b = l.initial in
    (l.i < l.noted) × (l.noted ≤ s.slots) × (l.stop ≡ b.stop)
    × Progress semiring s.limits s.slots s.rights.slots.now l.i l.distance l.found l.k-items b.ws b.replies b.missing b.noted l.ws l.replies l.missing l.noted l.k-index
    × Opened semiring s.limits s.slots s.rights.slots.now l.fn.replies l.waiting (most_nodes (length l.fn.results.order.now)) l.fn.ws b.ws b.replies b.missing b.noted l.i l.distance l.found l.k-items

abbrev pub invariant-outer : goal.invariant-outer
invariant-outer l =
    let s = l.self in
    let b = l.initial in
    (l.i ≤ l.noted) × (l.noted ≤ s.slots) × (l.stop ≡ Over) × (l.opened ≡ l.i)
    × Standing semiring s.limits s.slots s.rights.slots.now b.replies l.waiting (most_nodes (length l.fn.results.order.now)) b.ws l.ws l.replies l.missing l.noted l.i
    × (length l.results.order.now ≡ length l.fn.results.order.now)
