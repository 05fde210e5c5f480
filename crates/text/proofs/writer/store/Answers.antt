-- `store` meets its contract: as much as fits is copied.
use Rattle.text.proofs.Overlay.{overlay_part, overlay_out}
use Rattle.text.proofs.writer.store.Goals as goal

pub returns-then-at-out : goal.returns-then-at-out
returns-then-at-out c =
    let a = c.args in
    overlay_part a.out.now a.at a.text.now _ c.min-n.result c.if-at-out.true c.min-n.ensures c.overwrite.ensures

pub returns-else-at-out : goal.returns-else-at-out
returns-else-at-out c = let a = c.args in overlay_out a.out.now a.at a.text.now c.if-at-out.false
