-- `spell` meets its contract. The loop's invariant: what stands before `n` spells the words of the slots passed, if all find room.
use Rattle.words.proofs.Spelling.{SpelledTo}
use Rattle.words.proofs.sort.spell.Given as goal

abbrev pub invariant-loop-slot : goal.invariant-loop-slot
invariant-loop-slot l = SpelledTo l.words l.order l.initial.out l.slot-index l.n l.out
