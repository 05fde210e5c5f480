-- `spell_word` meets its contract. The loop's invariant: what stands before `i` are the first `i` letters, each plus 1, and what follows the word is kept.
use Rattle.words.proofs.Spelling.{LettersTo}
use Rattle.words.proofs.sort.spell_word.Given as goal

abbrev pub invariant-loop-i : goal.invariant-loop-i
invariant-loop-i l = LettersTo l.word l.initial.out l.i l.out
