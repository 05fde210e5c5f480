-- The blocks meet their contract. The invariant: the blocks before r are put.
use Rattle.text.proofs.Blocks.{PutsBlocks}
use Rattle.text.proofs.answer.block.BlocksText.put.Given as goal

abbrev pub invariant-loop-r : goal.invariant-loop-r
invariant-loop-r l =
    let b = l.self in
    PutsBlocks b.left.now b.rights.slots.now b.replies.now b.searched.ended b.searched.cut b.searched.ws.now l.r l.initial.w l.w
