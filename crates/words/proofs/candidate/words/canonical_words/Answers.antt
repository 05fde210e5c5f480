-- `canonical_words` renames the v letters that the words of both terms have.
use Rattle.std.proofs.Common.{refl, arith}
use Rattle.words.proofs.CanonicalWords.{too_many, all_listed}
use Rattle.words.proofs.BoundedWords.{multiplied}
use Rattle.words.proofs.candidate.words.canonical_words.Goals as goal

pub returns-in-Some-clause-found : goal.returns-in-Some-clause-found
returns-in-Some-clause-found c =
    all_listed _ _ _ _
    (multiplied (omega arith) (omega arith) c.multiply_out-m.ensures)
    (multiplied (omega arith) (omega arith) c.multiply_out-n.ensures)
    c.variables_of_words.ensures c.in-Some.is c.least_renaming.ensures.found

pub returns-in-None-clause-found : goal.returns-in-None-clause-found
returns-in-None-clause-found c =
    too_many _ _ _ _
    (multiplied (omega arith) (omega arith) c.multiply_out-m.ensures)
    (multiplied (omega arith) (omega arith) c.multiply_out-n.ensures)
    c.variables_of_words.ensures refl c.in-None.is
