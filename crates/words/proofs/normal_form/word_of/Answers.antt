-- `word_of` hands back the part of the slots that is the word.
use Rattle.std.proofs.Common.{arith, ◌∙◌, length-take, length-drop}
use Rattle.words.proofs.Slots.{no_slot, slot_found}
use Rattle.words.proofs.normal_form.word_of.Goals as goal

pub returns-in_default : goal.returns-in_default
returns-in_default c = no_slot _ _ (let e = simp (length-take, length-drop) at c.in_default.ensures.cases in omega arith)

pub returns : goal.returns
returns c = c.front.ensures ∙ slot_found c.args.words.now c.args.k c.min-start.result _ _ (λ h. omega arith) c.in-Some.ensures.cases.0
