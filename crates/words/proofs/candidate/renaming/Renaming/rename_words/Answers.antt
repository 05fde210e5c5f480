-- `rename_words` writes the words of the slots that were filled.
use Rattle.words.specs.Renaming.{new_of}
use Rattle.words.proofs.RenamedWords.{words_renamed}
use Rattle.words.proofs.candidate.renaming.Renaming.rename_words.Goals as goal

pub returns : goal.returns
returns c =
    let a = c.args in
    words_renamed (new_of a.self.now) a.words.now a.slots.now c.rename_slots-n.ensures c.front.ensures c.spell_sorted.ensures
