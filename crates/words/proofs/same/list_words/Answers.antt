-- `list_words` meets its contract: the slots that were filled, in order.
use Rattle.std.proofs.Common.{◌≡◌, length, take, arith, length-take-le}
use Rattle.words.proofs.Listing.{listed}
use Rattle.words.proofs.same.list_words.Goals as goal

pub returns : goal.returns
returns c =
    let n = c.multiply_out-n.result in
    let k : length (take n c.args.order.now) ≡ n = length-take-le n c.args.order.now (omega arith) in
    listed c.multiply_out-n.ensures (omega arith) (omega arith) c.sort_slots.new.order _ (omega (arith, k)) (rw k at c.sort_slots.ensures)
