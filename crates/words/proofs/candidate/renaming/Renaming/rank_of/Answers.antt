use Rattle.std.proofs.Common.{◌≡◌, ◌/◌, length, arith}
use Rattle.terms.specs.Promises.{ordering_of}
use Rattle.words.specs.RenameRun.{rename_run}
use Rattle.words.specs.Renaming.{new_of}
use Rattle.words.specs.Rank.{first_word}
use Rattle.words.proofs.Ranked.{none_counted, one_more_counted}
use Rattle.words.proofs.Passed.{all_passed}
use Rattle.words.proofs.candidate.renaming.Renaming.rank_of.Goals as goal

pub loop-i-init : goal.loop-i-init
loop-i-init c = (omega arith, none_counted _ _ _)

pub loop-i-preserved-then-i-next : goal.loop-i-preserved-then-i-next
loop-i-preserved-then-i-next c =
    let a = c.args in (
      omega (arith, c.pass_greater-next.ensures.within),
      all_passed (rename_run (new_of a.self.now)) a.words.now (first_word a.run.now) c.loop-i.i _ c.if-i-next.true c.pass_greater-next.ensures
          c.loop-i.invariant.1,
    )

pub loop-i-preserved : goal.loop-i-preserved
loop-i-preserved c =
    let a = c.args in (
      omega arith,
      one_more_counted (rename_run (new_of a.self.now)) a.words.now (first_word a.run.now) c.loop-i.i (ordering_of c.compare_first.result)
          c.loop-i.invariant.1 c.word_of.ensures c.compare_first.ensures c.note.ensures,
    )

pub returns : goal.returns
returns c =
    let e : c.loop-i.i ≡ length c.args.words.now / 17 = omega arith in
    rw e at c.loop-i.invariant.1.ranks
