use Rattle.std.proofs.Common.{◌+◌, refl, add-zero, arith}
use Rattle.words.proofs.Stores.{store_start, store_end}
use Rattle.words.proofs.normal_form.copy.Goals as goal

pub loop-i-init : goal.loop-i-init
loop-i-init c = rw add-zero (store_start c.args.out.now c.args.at c.args.numbers.now _ c.min-start.ensures)

pub returns : goal.returns
returns c =
    let l = c.loop-i in
    let start = c.min-start.result in
    store_end l.out c.args.numbers.now _ (start + l.i) l.i l.invariant start refl (omega arith) (omega arith)
