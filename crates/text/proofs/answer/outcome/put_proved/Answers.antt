-- `put_proved` meets its contract: no equation has more letters than there is room for.
use Rattle.std.proofs.Common.{rules, refl}
use Rattle.text.proofs.Answering.{letters_fit, letters_listed}
use Rattle.text.proofs.answer.outcome.put_proved.Goals as goal

pub returns-in_default : goal.returns-in_default
returns-in_default g c = λ s t xs m left right small_s small_t walk more. absurd (letters_fit left right small_s small_t c.letters.ensures refl (search rules))

pub returns-in-Some : goal.returns-in-Some
returns-in-Some g c =
    λ s t xs m left right small_s small_t walk more.
    c.put_lines.ensures s t xs m left right walk more
    (letters_listed left right small_s small_t c.letters.ensures c.in-Some.is)
