use Rattle.std.proofs.Common.{◌≡◌, length, refl, ◌∙◌, ap, arith}
use Rattle.words.specs.Rename.{renamed}
use Rattle.words.specs.Decoded.{factorial, renaming}
use Rattle.words.proofs.Canonical.{renaming_below}
use Rattle.words.proofs.Visited.{none_visited, one_more_offered, all_visited}
use Rattle.words.proofs.candidate.least_renaming.Goals as goal

pub loop-c-init : goal.loop-c-init
loop-c-init g c = (none_visited, refl, refl, λ n h. h)

pub loop-c-preserved : goal.loop-c-preserved
loop-c-preserved g c =
    let a = c.args in
    let l = c.loop-c in (
      one_more_offered (renaming a.names.now) l.invariant.0 (λ h. rw (ap (λ e. e.room) l.invariant.2) (l.invariant.3 _ h)) l.invariant.1 (c.new.ensures ∙ ap (renamed a.names.now) c.permutation.ensures)
          (renaming_below a.names.now c.requires l.c) c.offer.ensures.tried,
      c.offer.ensures.same ∙ l.invariant.1,
      c.offer.ensures.lent ∙ l.invariant.2,
      λ n h. c.offer.ensures.roomy n (l.invariant.3 n h),
    )

pub returns-clause-found : goal.returns-clause-found
returns-clause-found g c =
    let a = c.args in
    let e : c.loop-c.c ≡ factorial (length a.names.now) = omega (arith, c.factorial-c-end.ensures) in
    all_visited c.loop-c.invariant.0 (length a.names.now) e
