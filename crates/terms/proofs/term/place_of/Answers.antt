-- `place_of` meets its contract.
use Rattle.std.proofs.Common.{◌≡◌, ◌≤◌, ◌∙◌, ℕ, Some, None, nat_lt, nat_le, cond, not, ⊎_elim, arith, lt-ltb, le-ltb, rules, tests}
use Rattle.std.specs.List.{position}
use Rattle.std.specs.Option.{unwrap_or}
use Rattle.std.proofs.lemmas.List.Sums.{prefix_len-le-length}
use Rattle.terms.specs.Theory.Order.{below?}
use Rattle.std.proofs.lemmas.Iterator.{YieldsList-from_slice}
use Rattle.std.proofs.lemmas.Iterator.Search.{position_from_yields_List}
use Rattle.terms.proofs.term.place_of.Goals as goal

-- a place, or the end where there is none
place_or : (i n : ℕ) → i ≤ n → unwrap_or (cond (nat_lt i n) (Some i) None) n ≡ i
place_or i n h = ⊎_elim (λ p. rw (lt-ltb i n p)) (λ p. rw (le-ltb i n p) (omega arith)) (below? i n)

pub returns : goal.returns
returns c =
    let p : c.position.result ≡ position (λ y. nat_le c.args.x y) c.args.s.now =
    position_from_yields_List _ _ _ c.position.result c.position.ensures.ran (YieldsList-from_slice c.args.s.now cc) (λ x b q k. search (rules, tests)) in
    c.unwrap_or.ensures ∙ rw p (place_or _ _ (prefix_len-le-length (λ y. not (nat_le c.args.x y)) c.args.s.now))
