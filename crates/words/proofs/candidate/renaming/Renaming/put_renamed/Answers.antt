-- `put_renamed` puts what the buffer holds: the word renamed, if it has at most 16 letters.
use Rattle.std.proofs.Common.{refl}
use Rattle.words.specs.Renaming.{new_of}
use Rattle.words.proofs.RenamedWords.{word_renamed}
use Rattle.words.proofs.candidate.renaming.Renaming.put_renamed.Goals as goal

pub returns : goal.returns
returns c =
    let a = c.args in
    word_renamed (new_of a.self.now) a.word.now _ refl c.rename.ensures c.front.ensures c.put_word.ensures
