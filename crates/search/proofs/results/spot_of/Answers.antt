-- `spot_of` meets its contract: each call of the closure compares the run in one slot with the same run.
use borrow.Author.Rules.{rules}
use Rattle.std.proofs.lemmas.Fn.{always_returns_same}
use Rattle.search.specs.Ordered.{judged}
use Rattle.search.proofs.Sorting.{spotted}
use Rattle.search.proofs.results.spot_of.Goals as goal

pub returns : goal.returns
returns c =
    let a = c.args in
    let b = c.binary_search_by.ensures in
    rw c.err.ensures.value (
    spotted a.res.now a.order.now a.s.now c.binary_search_by.result b.bound
    (b.position (judged a.res.now a.s.now) (always_returns_same _ _ _ (λ k r f h. (search rules, search rules)))))
