-- `store_byte` meets its contract.
use mathlib.Core.List.{[], ◌∷◌}
use Rattle.text.proofs.Overlay.{overlay_byte, overlay_out}
use Rattle.text.proofs.writer.store_byte.Goals as goal

pub returns-then-at-out : goal.returns-then-at-out
returns-then-at-out c = let a = c.args in overlay_byte a.out.now a.at a.b

pub returns-else-at-out : goal.returns-else-at-out
returns-else-at-out c = let a = c.args in overlay_out a.out.now a.at (a.b ∷ []) c.if-at-out.false
