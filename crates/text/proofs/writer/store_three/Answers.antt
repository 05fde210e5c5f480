-- `store_three` meets its contract.
use mathlib.Core.List.{[], ◌∷◌}
use Rattle.text.proofs.Overlay.{overlay_three, overlay_out}
use Rattle.text.proofs.writer.store_three.Goals as goal

pub returns-then-out-at : goal.returns-then-out-at
returns-then-out-at c = let a = c.args in overlay_out a.out.now a.at (a.a ∷ a.b ∷ a.c ∷ []) c.if-out-at.true

pub returns-then-out-at-ge3 : goal.returns-then-out-at-ge3
returns-then-out-at-ge3 c = let a = c.args in overlay_three a.out.now a.at a.a a.b a.c
