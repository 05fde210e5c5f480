-- `results_of` meets its contract.
use Prim.Native.Nat.{◌+◌, ◌*◌}
use native.Mathlib.Omega.{arith}
use mathlib.Core.Path.{◌≡◌, refl}
use lib.ListN.{length, take}
use lib.Seq.{length-take-le}
use Rattle.terms.specs.Theory.Held.{size_of}
use Rattle.search.proofs.Resulting.{lent_then}
use Rattle.search.proofs.InTurn.{turns_none, turns_more, place_lines, places_all, resulted_never}
use Rattle.search.proofs.results.results_of.Goals.{then-results-s-via-then-results-s, then-results-s-via-else-results-s+then-size-gt-LARGEST}
use Rattle.search.proofs.results.results_of.Goals as goal

pub returns-then-results-s-clause-resulted : goal.returns-then-results-s-clause-resulted
returns-then-results-s-clause-resulted c =
    elim c.then-results-s.branch [
      | then-results-s-via-then-results-s w ↦ resulted_never _ _ (λ t h k q. omega (arith, size_of h))
      | then-results-s-via-else-results-s+then-size-gt-LARGEST w ↦ resulted_never _ _ (λ t h k q. omega arith)
    ]

pub loop-place-init : goal.loop-place-init
loop-place-init c = ((refl, refl, refl, refl), turns_none place_lines)

pub loop-place-preserved : goal.loop-place-preserved
loop-place-preserved c =
    let l = c.loop-place in
    let e : length (take c.args.size l.out) ≡ c.args.size = length-take-le c.args.size l.out (omega arith) in
    (lent_then c.args.results.now l.results c.lines_at.new.self l.invariant.0 c.lines_at.ensures.lent, turns_more place_lines l.place (20 * (l.place + 1)) l.invariant.1 e c.lines_at.ensures.added (omega arith))

pub returns-clause-resulted : goal.returns-clause-resulted
returns-clause-resulted c = let l = c.loop-place in places_all l.place l.invariant.1 (length c.args.results.now.order.now) (omega arith) (omega arith) (omega arith)
