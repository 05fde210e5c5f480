-- `is_use` meets its contract: the runs before, behind, and the law's sides at the position.
use native.Mathlib.Omega.{arith}
use mathlib.Core.Path.{◌≡◌, refl, sym, ◌∙◌}
use mathlib.Core.Bool.{true, false}
use borrow.Author.Tests.{lt-leb, not-true, not-false}
use Rattle.terms.proofs.Compared.{equals}
use Rattle.search.proofs.Using.{use_short, use_before, use_long, use_after, use_fits}
use borrow.Author.Rules.{rules}
use Rattle.search.proofs.chain.is_use.Goals.{then-both-other-via-then-both-other, then-both-other-via-else-both-other+then-ne, then-end-middle, else-end-middle}
use Rattle.search.proofs.chain.is_use.Goals as goal

pub returns-then-both-other : goal.returns-then-both-other
returns-then-both-other c =
    let a = c.args in
    elim c.then-both-other.branch [
      | then-both-other-via-then-both-other w ↦ search (use_short, rules)
      | then-both-other-via-else-both-other+then-ne w ↦
          use_before a.law a.direction a.pair.both.now a.pair.middle a.at a.pair.within (omega arith) _ (equals refl) (not-true _ (sym w.ne.ensures ∙ w.if-ne.true))
    ]

pub returns-then-eq : goal.returns-then-eq
returns-then-eq c =
    let a = c.args in
    elim c.if-end-middle.branch [
      | then-end-middle w ↦
          use_fits a.law a.direction a.pair.both.now a.pair.middle a.at a.pair.within (omega arith) _ (equals refl) _ c.end_of-end.ensures (omega arith) _
          c.end_of-rest.ensures _ (equals w.eq.ensures) _ (not-false _ (sym c.ne.ensures ∙ c.if-ne.false)) (sym w.value-is ∙ c.if-eq.true) c.fits_both.ensures
      | else-end-middle w ↦ let e : true ≡ false = sym c.if-eq.true ∙ w.value-is ∙ lt-leb _ _ w.if-end-middle.false in cc
    ]

pub returns-else-eq : goal.returns-else-eq
returns-else-eq c =
    let a = c.args in
    elim c.if-end-middle.branch [
      | then-end-middle w ↦ rw c.if-eq.false (
          use_after a.law a.direction a.pair.both.now a.pair.middle a.at a.pair.within (omega arith) _ (equals refl) _ c.end_of-end.ensures (omega arith) _
          c.end_of-rest.ensures _ (equals w.eq.ensures) (sym w.value-is ∙ c.if-eq.false))
      | else-end-middle w ↦ rw c.if-eq.false (
          use_long a.law a.direction a.pair.both.now a.pair.middle a.at a.pair.within (omega arith) _ (equals refl) _ c.end_of-end.ensures w.if-end-middle.false)
    ]
