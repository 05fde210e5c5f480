-- `letter` meets its contract: the number counted from the first letter of its kind.
use Rattle.std.proofs.Common.{rules}
use Rattle.text.proofs.Reading.{letter_most, letter_missing, letter_read}
use Rattle.text.proofs.job.letter.Goals as goal

pub returns-in_err-ok : goal.returns-in_err-ok
returns-in_err-ok c = search (letter_missing, rules)

pub overflow_add-result : goal.overflow_add-result
overflow_add-result c = search (letter_most, rules)

pub returns : goal.returns
returns c = letter_read _ _ (search rules) _ _ (search rules)
