use Rattle.words.specs.RenameRun.{rename_run}
use Rattle.words.specs.Renaming.{new_of}
use Rattle.words.proofs.RenamedWords.{none_renamed, one_more_renamed}
use Rattle.words.proofs.candidate.renaming.Renaming.rename_slots.Goals as goal

pub loop-i-init : goal.loop-i-init
loop-i-init c = none_renamed _ _ _

pub loop-i-preserved : goal.loop-i-preserved
loop-i-preserved c =
    let a = c.args in
    one_more_renamed (rename_run (new_of a.self.now)) a.words.now a.slots.now c.loop-i.i c.loop-i.invariant c.word_of.ensures c.put_renamed-next.ensures
