-- `put_argument` meets its contract.
use Rattle.text.specs.Bytes.{ascii}
use Rattle.text.proofs.Rendered.{held_in}
use Rattle.text.proofs.Applied.{put_no_argument, put_argument}
use Rattle.text.proofs.kernel_bridge.put_argument.Goals as goal

pub returns-then-v-ne0 : goal.returns-then-v-ne0
unfolding ascii
returns-then-v-ne0 c =
    let a = c.args in
    λ p m. put_argument a.run.now a.v a.names.now p c.if-v-ne0.true c.put_byte.ensures (λ t h. c.render_term.ensures t (held_in c.tail.ensures h)) c.put_byte-then-v-ne0.ensures m

pub returns-else-v-ne0 : goal.returns-else-v-ne0
returns-else-v-ne0 c =
    let a = c.args in
    λ p m. put_no_argument a.run.now a.v a.names.now a.w.now p c.if-v-ne0.false m
