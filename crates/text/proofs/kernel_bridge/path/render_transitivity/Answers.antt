-- `render_transitivity` meets its contract.
use Rattle.text.specs.Bytes.{ascii}
use Rattle.text.specs.Framed.{ends}
use Rattle.text.proofs.Writing.{then}
use Rattle.text.proofs.Joining.{holds_shown}
use Rattle.text.proofs.kernel_bridge.path.render_transitivity.Goals as goal

pub returns : goal.returns
unfolding ascii ends
returns c =
    λ s u v hs hu hv.
    then c.put_bytes.ensures
    (then (c.render_term.ensures s (holds_shown c.run_of.ensures hs))
    (then c.put_bytes-2.ensures
    (then (c.render_term-2.ensures u (holds_shown c.run_of-2.ensures hu))
    (then c.put_bytes-3.ensures (then (c.render_term-3.ensures v (holds_shown c.run_of-3.ensures hv)) c.put_bytes-4.ensures)))))
