-- `total_of` meets its contract: a law's weight stands at its number.
use Rattle.std.specs.Prelude.{ℕ, ◌≡◌, List, length, get_or}
use Rattle.std.proofs.Common.{arith, ap, ◌∙◌}
use Rattle.std.proofs.Math.Path.{refl}
use Rattle.std.proofs.lemmas.List.{get_or_default}
use Rattle.search.specs.Law.{rank}
use Rattle.search.specs.Coded.{name_of, law_number}
use Rattle.search.specs.declared.search.Law.{Law}
use Rattle.search.proofs.Coded.{each_law, number_below}
use Rattle.weigh.specs.Weigh.{weights_of}
use Rattle.weigh.proofs.weighing.Weighing.total_of.Goals as goal

rank_number : (v : Law) → law_number v ≡ rank (name_of v)
rank_number = each_law (λ v. law_number v ≡ rank (name_of v)) (refl, refl, refl, refl, refl, refl, refl, refl, refl, refl)

weight_read : (ws : List ℕ) (v : Law) → length ws ≡ 10 → get_or ws (law_number v) 0 ≡ weights_of ws (name_of v)
unfolding weights_of
weight_read ws v e = get_or_default ws (law_number v) 0 1 (omega (arith, number_below v)) ∙ ap (λ n. get_or ws n 1) (rank_number v)

pub returns-then-self-sum : goal.returns-then-self-sum
returns-then-self-sum c = let s = c.args.self in rw (← (weight_read s.weights c.args.law (omega arith)), ← c.from.ensures.0) c.if-self-sum.true

pub returns : goal.returns
returns c =
    let s = c.args.self in
    let e = weight_read s.weights c.args.law (omega arith) in
    rw (← e, ← c.from.ensures.0) (refl, c.if-self-sum.false)
