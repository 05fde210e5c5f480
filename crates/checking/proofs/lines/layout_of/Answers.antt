-- `layout_of` meets its contract: the sides' lines are read, then the steps are well formed or not.
use Rattle.std.proofs.Common.{sym, ◌∙◌}
use Rattle.text.specs.Bytes.{ascii}
use Rattle.checking.proofs.StepLines.{no_steps}
use Rattle.checking.proofs.lines.layout_of.Goals as goal

pub returns-then-not-well_formed : goal.returns-then-not-well_formed
unfolding ascii
returns-then-not-well_formed c = no_steps c.args.s.now c.in_ok-left.ensures c.in_ok-right.ensures (sym c.well_formed-2.ensures ∙ c.if-not-well_formed.true)
