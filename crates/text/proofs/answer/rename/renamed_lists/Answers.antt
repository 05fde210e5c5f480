-- `renamed_lists` meets its contract.
use Rattle.text.proofs.Renaming.{no_lists, canonical_lists}
use Rattle.text.proofs.answer.rename.renamed_lists.Goals as goal

pub returns-then-same_words : goal.returns-then-same_words
returns-then-same_words c = λ s t p q small-s small-t few room. no_lists c.same_words.ensures c.if-same_words.true s t p q small-s small-t few

pub returns : goal.returns
returns c = canonical_lists c.same_words.ensures c.if-same_words.false c.canonical_words.ensures.found c.left.ensures.is c.right.ensures.is
