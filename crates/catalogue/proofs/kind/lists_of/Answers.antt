-- `lists_of` meets its contract.
use Rattle.std.proofs.Common.{ap}
use Rattle.words.specs.Candidate.{Making}
use Rattle.catalogue.proofs.Making.{sides_made, nothing_made, lists_made}
use Rattle.catalogue.proofs.kind.lists_of.Goals as goal

pub returns-in-Raw-clause-made : goal.returns-in-Raw-clause-made
returns-in-Raw-clause-made c = rw c.in-Raw.is (sides_made c.canonical_terms.ensures.found)

pub returns-in-Words-clause-made : goal.returns-in-Words-clause-made
returns-in-Words-clause-made c = rw c.in-Words.is (nothing_made c.same_words.result c.same_words.ensures c.if-same_words.true (ap (λ (m : Making). m.sides) c.clear.ensures.empty))

pub returns-in-Words-2-clause-made : goal.returns-in-Words-2-clause-made
returns-in-Words-2-clause-made c = rw c.in-Words-2.is (lists_made c.same_words.result c.same_words.ensures c.if-same_words.false c.canonical_words.ensures.found)
