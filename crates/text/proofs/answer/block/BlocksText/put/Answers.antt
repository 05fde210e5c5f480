-- The blocks meet their contract.
use Rattle.text.proofs.Blocks.{blocks_start, blocks_more}
use Rattle.text.proofs.answer.block.BlocksText.put.Goals as goal

pub loop-r-init : goal.loop-r-init
loop-r-init c =
    let b = c.args.self.now in
    blocks_start b.left.now b.rights.slots.now b.replies.now b.searched.ended b.searched.cut b.searched.ws.now c.args.w.now

pub loop-r-preserved : goal.loop-r-preserved
loop-r-preserved c =
    let b = c.args.self.now in
    blocks_more b.left.now b.rights.slots.now b.replies.now b.searched.ended b.searched.cut b.searched.ws.now c.loop-r.r c.loop-r-test.true c.run.ensures c.loop-r.invariant
    c.put_block.ensures
