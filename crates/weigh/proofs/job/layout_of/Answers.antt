-- `layout_of` meets its contract: one of the seven lines is missing or malformed, or they are read.
use Rattle.std.proofs.Common.{refl}
use Rattle.text.specs.Bytes.{ascii}
use Rattle.weigh.proofs.ReadLines.{no_left, no_right, no_cost, no_size, no_depth, no_nodes, no_line, laid_out}
use Rattle.weigh.proofs.job.layout_of.Goals as goal

pub returns-in_err-left : goal.returns-in_err-left
unfolding ascii
returns-in_err-left c = rw c.from_residual.ensures (no_left c.args.s.now c.in_err-left.ensures)

pub returns-in_err-right : goal.returns-in_err-right
unfolding ascii
returns-in_err-right c = rw c.from_residual-in_err-right.ensures (no_right c.args.s.now c.in_ok-left.ensures c.in_err-right.ensures)

pub returns-in_err-cost : goal.returns-in_err-cost
unfolding ascii
returns-in_err-cost c = rw c.from_residual-in_err-cost.ensures (no_cost c.args.s.now c.in_ok-left.ensures c.in_ok-right.ensures c.in_err-cost.ensures)

pub returns-in_err-size : goal.returns-in_err-size
unfolding ascii
returns-in_err-size c =
    rw c.from_residual-in_err-size.ensures
    (no_size c.args.s.now c.in_ok-left.ensures c.in_ok-right.ensures c.in_ok-cost.ensures c.in_err-size.ensures)

pub returns-in_err-depth : goal.returns-in_err-depth
unfolding ascii
returns-in_err-depth c =
    rw c.from_residual-in_err-depth.ensures
    (no_depth c.args.s.now c.in_ok-left.ensures c.in_ok-right.ensures c.in_ok-cost.ensures c.in_ok-size.ensures c.in_err-depth.ensures)

pub returns-in_err-nodes : goal.returns-in_err-nodes
unfolding ascii
returns-in_err-nodes c =
    rw c.from_residual-in_err-nodes.ensures
    (no_nodes c.args.s.now c.in_ok-left.ensures c.in_ok-right.ensures c.in_ok-cost.ensures c.in_ok-size.ensures c.in_ok-depth.ensures c.in_err-nodes.ensures)

pub returns-in_err-weights : goal.returns-in_err-weights
unfolding ascii
returns-in_err-weights c =
    rw c.from_residual-in_err-weights.ensures
    (no_line c.args.s.now c.in_ok-left.ensures c.in_ok-right.ensures c.in_ok-cost.ensures c.in_ok-size.ensures c.in_ok-depth.ensures c.in_ok-nodes.ensures c.in_err-weights.ensures)

pub returns : goal.returns
unfolding ascii
returns c =
    laid_out c.args.s.now c.in_ok-left.ensures c.in_ok-right.ensures c.in_ok-cost.ensures c.in_ok-size.ensures c.in_ok-depth.ensures c.in_ok-nodes.ensures
    refl refl refl refl c.in_ok-weights.ensures
