-- `render_term` meets its contract: the parts are rendered one after the other.
use mathlib.Core.Path.{sym, ap}
use Rattle.text.specs.Bytes.{ascii}
use Rattle.text.specs.Rendered.{atom, operator}
use Rattle.text.proofs.Writing.{put_as}
use Rattle.text.proofs.Rendered.{first_found, first_missing, held_past, held_in, put_atom_term, put_node}
use Rattle.text.proofs.kernel_bridge.+render_term.Goals as goal

pub returns-in_default : goal.returns-in_default
returns-in_default t c = λ u k. absurd (held_past (first_missing c.args.s.now c.in_default.ensures.value) k)

pub returns-then-n-lt-ADD : goal.returns-then-n-lt-ADD
returns-then-n-lt-ADD t c =
    let f = first_found c.args.s.now c.in-Some.ensures.value in
    put_atom_term c.args.names.now c.args.s.now 0 (rw f.1 c.if-n-lt-ADD.true) (put_as (ap (atom c.args.names.now) (sym f.1)) c.put_atom.ensures)

pub returns : goal.returns
unfolding ascii
returns t c =
    let f = first_found c.args.s.now c.in-Some.ensures.value in
    put_node c.args.names.now c.args.s.now 0 c.end_of-right.result (rw f.1 c.if-n-lt-ADD.false) c.end_of-right.ensures
    (put_as (ap operator (sym f.1)) c.put_operator.ensures) (λ u h. c.render_term.ensures u (held_in c.tail.ensures h)) c.put_bytes.ensures
    (λ u h. c.render_term-2.ensures u (held_in c.tail-2.ensures h)) c.put_byte.ensures
