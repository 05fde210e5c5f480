-- `begins_with` meets its contract.
use Rattle.std.proofs.Common.{sym, ◌∙◌, arith}
use Rattle.std.proofs.lemmas.Bool.{eqb-true, leb-true}
use Rattle.words.proofs.Passed.{pair_here}
use Rattle.words.proofs.candidate.rank.begins_with.Goals as goal
use Rattle.words.proofs.candidate.rank.begins_with.Goals.{then-words-at-ge2, else-words-at-ge2}

pub returns-then-words-at : goal.returns-then-words-at
returns-then-words-at c =
    let a = c.args in
    λ e. elim c.if-words-at-ge2.branch [
      | then-words-at-ge2 w ↦
          pair_here a.words.now a.k a.x a.y c.requires w.if-words-at-ge2.true
          (eqb-true _ _ (sym w.value-is ∙ c.if-words-at.true)) (eqb-true _ _ e)
      | else-words-at-ge2 w ↦ absurd (omega (arith, leb-true 2 _ (sym w.value-is ∙ c.if-words-at.true), w.if-words-at-ge2.false))
    ]
