-- `answer_same` meets its contract: what it finds of the lists is the quick answer.
use Rattle.std.proofs.Common.{sym, ap, ◌∙◌}
use Rattle.words.specs.Theory.Same.{same_words_lists}
use Rattle.text.specs.Words.{same_text}
use Rattle.text.proofs.answer.same.answer_same.Goals as goal

pub returns : goal.returns
returns c = λ s t p q small-s small-t. c.answered.ensures _ (ap same_text (same_words_lists s t ∙ sym (c.same_words-same.ensures s t p q small-s small-t)))
