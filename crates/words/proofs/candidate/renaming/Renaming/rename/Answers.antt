use Rattle.std.proofs.Common.{arith}
use Rattle.words.specs.Renaming.{new_of}
use Rattle.words.proofs.Renamed.{renaming_next, renaming_ended}
use Rattle.words.proofs.candidate.renaming.Renaming.rename.Goals as goal

pub loop-i-preserved : goal.loop-i-preserved
loop-i-preserved c =
    let a = c.args in
    let l = c.loop-i in
    renaming_next (new_of a.self.now) a.run.now l.out _ l.i l.invariant (omega (arith, c.min-i-end.ensures)) c.number.ensures

pub returns : goal.returns
returns c =
    let a = c.args in
    let l = c.loop-i in
    renaming_ended (new_of a.self.now) a.run.now l.out _ l.i l.invariant (omega (arith, c.min-i-end.ensures, c.loop-i.auto.out))
