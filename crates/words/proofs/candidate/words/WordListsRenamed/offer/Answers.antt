-- `offer` of two lists of words passes an equation over, or makes it and tries it.
use Rattle.std.proofs.Common.{arith}
use Rattle.words.specs.Renaming.{new_of}
use Rattle.words.proofs.Visited.{offered}
use Rattle.words.proofs.RenamedWords.{words_made, words_passed, slots_as_long}
use Rattle.words.proofs.candidate.words.WordListsRenamed.offer.Goals as goal

pub returns-then-is_greater-clause-tried : goal.returns-then-is_greater-clause-tried
returns-then-is_greater-clause-tried c =
    let a = c.args in
    words_passed a.self.now.u.now a.self.now.v.now (new_of a.renaming.now) a.c (rw c.if-is_greater.true at c.is_greater.ensures) c.left.ensures.is

pub returns-clause-tried : goal.returns-clause-tried
returns-clause-tried c =
    let a = c.args in
    offered
    (words_made a.self.now.u.now a.self.now.v.now (new_of a.renaming.now) (omega arith) (omega arith) (omega arith) c.rename_words-m.ensures
    (slots_as_long c.rename_words-m.auto.slots c.rename_words-n.ensures)) c.offer.ensures.tried
