-- `put_word` meets its contract: its letters are put from the writer's place on.
use native.Mathlib.Omega.{arith}
use mathlib.Core.Path.{refl, ap, ◌∙◌}
use lib.ListN.{length}
use Rattle.std.proofs.lemmas.Bool.Decides.{nat_tests}
use Rattle.text.proofs.Overlay.{length_overlay}
use Rattle.text.proofs.Writing.{same_output}
use Rattle.text.proofs.WordTexts.{put_empty_word, put_whole_word}
use Rattle.text.proofs.put.put_word.Goals as goal

pub returns-then-is_empty-clause-text : goal.returns-then-is_empty-clause-text
returns-then-is_empty-clause-text c = λ v e. put_empty_word c.args.letters.now v (grind (arith, nat_tests)) e c.put_byte.ensures

pub returns-then-is_empty-clause-same : goal.returns-then-is_empty-clause-same
returns-then-is_empty-clause-same c = same_output c.put_byte.ensures

pub returns-clause-same : goal.returns-clause-same
returns-clause-same c = (refl, ap length c.put_letters-w.ensures.bytes ∙ length_overlay c.args.w.now.buf.now c.args.w.now.at _)

pub returns-clause-text : goal.returns-clause-text
returns-clause-text c = λ v e. put_whole_word c.args.letters.now v (λ f. grind (arith, nat_tests)) e (record { put = c.put_letters-w.ensures; same = refl })
