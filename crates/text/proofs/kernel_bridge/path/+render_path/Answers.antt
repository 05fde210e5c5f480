-- `render_path` meets its contract: the lines but the last, joined to the last.
use native.Mathlib.Omega.{arith}
use Prim.Native.Nat.{◌-◌}
use lib.ListN.{length}
use Rattle.text.specs.Bytes.{ascii}
use Rattle.text.proofs.Rendered.{read_found, read_missing}
use Rattle.text.proofs.Joining.{lines_none, lines_all, path_one, path_more}
use Rattle.text.proofs.kernel_bridge.path.+render_path.Goals as goal

pub returns-in_default : goal.returns-in_default
returns-in_default t c =
    let names = c.args.names.now in
    λ s xs w. lines_all w names (lines_none w names (length c.args.lines.path.now) c.in_default.ensures.cases)

pub returns-in_default-last : goal.returns-in_default-last
returns-in_default-last t c =
    λ s xs w. path_one c.args.lines.path.now c.in-Some.before.now c.in-Some.last.now c.in-Some.ensures.cases.0 w c.args.names.now (read_missing c.in-Some.before.now c.in_default-last.ensures.value) c.render_slot.ensures

pub returns : goal.returns
unfolding ascii
returns t c =
    let m = read_found c.in-Some.before.now (length c.in-Some.before.now - 1) c.in-Some-last.ensures.value in
    λ s xs w.
    path_more c.args.lines.path.now c.in-Some.before.now c.in-Some.last.now c.in-Some.ensures.cases.0 w c.args.names.now (omega (arith, m.0)) m.1
    c.render_transitivity.ensures c.render_path.ensures c.put_bytes.ensures c.render_slot-2.ensures c.put_byte.ensures
