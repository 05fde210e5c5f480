-- `pass_greater` meets its contract.
use Rattle.std.proofs.Common.{sym, ◌∙◌}
use Rattle.words.specs.Renaming.{new_of}
use Rattle.words.specs.Rank.{first_word}
use Rattle.words.proofs.Passed.{pair_passed}
use Rattle.words.proofs.candidate.renaming.Renaming.pass_greater.Goals as goal

pub returns : goal.returns
returns c =
    let a = c.args in
    pair_passed (new_of a.self.now) a.words.now (first_word a.run.now) a.i _ c.word_of-word.result.now c.if-word-lt2.false
    c.compare_first.result (sym c.is_le.ensures ∙ c.if-is_le.false) c.compare_first.ensures c.pair_end.ensures
