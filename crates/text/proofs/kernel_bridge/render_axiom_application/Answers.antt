-- `render_axiom_application` meets its contract: the buffer holds both terms, one behind the other.
use mathlib.Core.Path.{refl}
use Rattle.text.proofs.Applied.{both_held, put_unmatched, put_matched}
use Rattle.text.proofs.kernel_bridge.render_axiom_application.Goals as goal

pub returns-in_default : goal.returns-in_default
returns-in_default c =
    let a = c.args in
    λ u v hu hv x y.
    let h = both_held refl c.copy_term-middle.auto.out c.copy_term-middle.ensures c.copy_term.ensures hu hv x y in
    put_unmatched a.names.now c.bind_sides.ensures u v h.0 h.1 a.w.now c.in_default.is

pub returns-in-Bound : goal.returns-in-Bound
returns-in-Bound c =
    let a = c.args in
    λ u v hu hv x y.
    let h = both_held refl c.copy_term-middle.auto.out c.copy_term-middle.ensures c.copy_term.ensures hu hv x y in
    put_matched a.names.now c.bind_sides.ensures u v h.0 h.1 _ c.in-Bound.is c.put_call.ensures
