-- A test's answer meets its contract.
use mathlib.Core.Path.{sym, ap, ◌∙◌}
use Rattle.text.specs.Answer.{yes_no}
use Rattle.text.specs.Bytes.{ascii}
use Rattle.text.proofs.Writing.{put_as}
use Rattle.text.proofs.put.BoolText.put.Goals as goal

pub returns-then-self : goal.returns-then-self
unfolding yes_no ascii
returns-then-self c = λ t e. put_as (sym (e ∙ ap yes_no c.if-self.true)) c.put_bytes.ensures

pub returns-else-self : goal.returns-else-self
unfolding yes_no ascii
returns-else-self c = λ t e. put_as (sym (e ∙ ap yes_no c.if-self.false)) c.put_bytes-else-self.ensures
