use Rattle.std.proofs.Common.{◌+◌, sym, ◌∙◌, arith, length-drop}
use Rattle.words.specs.Renaming.{new_of}
use Rattle.words.proofs.Parts.{end_lent}
use Rattle.words.proofs.Ranked.{found_greater, found_equal}
use Rattle.words.proofs.candidate.renaming.Renaming.is_above.Goals as goal

pub returns-then-counted-i : goal.returns-then-counted-i
returns-then-counted-i c =
    let a = c.args in
    λ e. found_greater (new_of a.self.now) a.words.now c.loop-i.rest.now c.loop-i.i c.loop-i.invariant.1 c.rank_of-counted.ensures c.if-counted-i.true
    (omega (arith, c.min-i-end.ensures))

pub loop-i-preserved : goal.loop-i-preserved
loop-i-preserved c =
    let a = c.args in
    let n = c.in-Some.end + 1 in
    rw (end_lent c.loop-i.rest.now n) (
      omega (arith, length-drop n c.loop-i.rest.now, c.loop-i.invariant.0),
      found_equal (new_of a.self.now) a.words.now c.loop-i.rest.now c.loop-i.i c.loop-i.invariant.1 c.rank_of-counted.ensures c.in-Some.end
          c.if-i-counted.false c.if-counted-i.false (sym c.in-Some.is ∙ c.place_of.ensures.is),
    )

pub overflow_add-rest : goal.overflow_add-rest
overflow_add-rest c = omega (arith, c.in-Some.ensures.within, c.loop-i.invariant.0)

pub offset_bounds-rest-end : goal.offset_bounds-rest-end
offset_bounds-rest-end c = omega (arith, c.in-Some.ensures.within, c.loop-i.invariant.0)
