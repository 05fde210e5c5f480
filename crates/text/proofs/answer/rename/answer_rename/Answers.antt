-- `answer_rename` meets its contract.
use mathlib.Core.Path.{refl, ap}
use native.Mathlib.Omega.{arith}
use Rattle.words.specs.Words.{words}
use Rattle.words.specs.Rename.{canonical_terms}
use Rattle.text.proofs.Renaming.{canonical_runs}
use Rattle.text.proofs.answer.rename.answer_rename.Goals as goal

pub returns : goal.returns
returns c =
    λ s t p q small-s small-t few.
    let (left, right) = canonical_runs (rw (ap (λ m. m.room) c.new-terms.ensures.empty) at c.canonical_terms.ensures.found) c.left.ensures.is c.right.ensures.is s t p q small-s small-t few in
    c.answered.ensures _ (
      canonical_terms s t,
      words s,
      words t,
      left,
      right,
      (rw (ap (λ m. m.room) c.new-lists.ensures.empty) at c.renamed_lists.ensures) s t p q small-s small-t few (omega arith),
      refl,
    )
