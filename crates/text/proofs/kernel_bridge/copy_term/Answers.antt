-- `copy_term` meets its contract.
use Rattle.text.proofs.Applied.{copies_all}
use Rattle.text.proofs.kernel_bridge.copy_term.Goals as goal

pub returns : goal.returns
returns c =
    copies_all c.args.s.now c.args.out.now c.args.n c.requires c.end_of-end.result c.end_of-end.ensures c.append.result
    c.append.new.out c.if-out-n.false c.append.ensures.0 c.append.ensures.1
