-- `compare_equations` compares the left sides, and the right ones if those are equal.
use Rattle.std.proofs.Common.{rules}
use Rattle.words.proofs.Kept.{by_side}
use Rattle.words.proofs.candidate.compare_equations.Goals as goal

pub returns : goal.returns
returns o c =
    let a = c.args in
    by_side a.a.now a.b.now a.c.now a.d.now c.compare.result _ c.compare.ensures c.then_with.ensures (λ p. search rules)
