-- `gather_words` gathers word by word. The loop's invariant: what the words in the first `i` slots give fills the front.
use Rattle.std.proofs.Common.{take}
use Rattle.std.specs.Prelude.{Some}
use Rattle.terms.specs.Promises.{Fills}
use Rattle.words.proofs.WordNames.{gathered_to}
use Rattle.words.proofs.candidate.words.gather_words.Given as goal

abbrev pub invariant-loop-i : goal.invariant-loop-i
invariant-loop-i l = Fills (gathered_to l.words (take l.n l.initial.out) l.i) l.initial.out (Some l.count) l.out
