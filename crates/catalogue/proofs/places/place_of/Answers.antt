-- `place_of` meets its contract.
use Rattle.std.proofs.Common.{◌≡◌, rules, arith, Some, None}
use Rattle.std.proofs.lemmas.Iterator.{first_from_Range}
use Rattle.catalogue.specs.Stored.{number_at}
use Rattle.catalogue.specs.Promises.{Seeks}
use Rattle.catalogue.proofs.Walking.{place_found}
use Rattle.catalogue.proofs.places.place_of.Goals as goal
use Rattle.catalogue.proofs.places.place_of.Goals.{After-find}

sought : (c : After-find) → Seeks c.args.catalogue.now c.args.n c.find.result
sought c =
    let a = c.args in
    place_found a.catalogue.now a.n c.find.result
    (first_from_Range _ _ _ c.find.result (λ k. number_at a.catalogue.now k ≡ a.n) (λ k. number_at a.catalogue.now k ≡ a.n → ⊥) c.find.ensures.ran
    (λ k q d. search rules) (λ k q d. search rules))

pub returns-in_err-k : goal.returns-in_err-k
returns-in_err-k c =
    let none : c.find.result ≡ None = grind arith in
    rw c.from_residual.ensures (rw none at (sought (goal.at.returns-in_err-k c).After-find))

pub numbered-requires : goal.numbered-requires
numbered-requires c =
    let some : c.find.result ≡ Some c.in_ok-k.k = grind arith in
    let found = rw some at (sought (goal.at.numbered-requires c).After-find) in
    found.0

pub returns : goal.returns
returns c =
    let some : c.find.result ≡ Some c.in_ok-k.k = grind arith in
    rw c.numbered.ensures (rw some at (sought (goal.at.returns c).After-find))
