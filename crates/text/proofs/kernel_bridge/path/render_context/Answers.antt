-- `render_context` meets its contract: the operator, the other part, and the hole on its side.
use mathlib.Core.Path.{sym, ap}
use Rattle.search.specs.Line.{l, r}
use Rattle.search.specs.Coded.{side_of}
use Rattle.text.specs.Bytes.{ascii}
use Rattle.text.specs.Proof.{part}
use Rattle.text.specs.Rendered.{operator}
use Rattle.text.proofs.Writing.{then, put_as, put_none}
use Rattle.text.proofs.Rendered.{first_found, first_missing, held_past}
use Rattle.text.proofs.Framing.{atom, node}
use Rattle.text.proofs.kernel_bridge.path.render_context.Goals as goal

pub returns-in_default : goal.returns-in_default
returns-in_default c = λ t h. absurd (held_past (first_missing c.args.s.now c.in_default.ensures.value) h)

pub returns-then-n-lt-ADD : goal.returns-then-n-lt-ADD
returns-then-n-lt-ADD c =
    let a = c.args in
    let f = first_found a.s.now c.in-Some.ensures.value in
    λ t h. put_as (sym ((atom t (rw f.1 c.if-n-lt-ADD.true) h).bare a.names.now (side_of a.side))) (put_none a.w.now)

pub returns-in-Left : goal.returns-in-Left
unfolding ascii
returns-in-Left c =
    let a = c.args in
    let f = first_found a.s.now c.in-Some.ensures.value in
    λ t h.
    let n = node t (rw f.1 c.if-n-lt-ADD.false) h in
    rw c.in-Left.is
    (put_as (n.after a.names.now)
    (then (put_as (ap operator (sym f.1)) c.put_operator.ensures) (then c.put_bytes.ensures (then (c.render_term.ensures (part r t) (c.part_of.ensures t h)) c.put_byte.ensures))))

pub returns-in-Right : goal.returns-in-Right
unfolding ascii
returns-in-Right c =
    let a = c.args in
    let f = first_found a.s.now c.in-Some.ensures.value in
    λ t h.
    let n = node t (rw f.1 c.if-n-lt-ADD.false) h in
    rw c.in-Right.is
    (put_as (n.before a.names.now)
    (then (put_as (ap operator (sym f.1)) c.put_operator.ensures) (then (c.render_term-in-Right.ensures (part l t) (c.part_of-in-Right.ensures t h)) c.put_bytes-in-Right.ensures)))
