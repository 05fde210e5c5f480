-- The answer meets its contract: the lists in order, and where they part, if they do.
use Rattle.std.proofs.Common.{sym, ◌∙◌, refl}
use Rattle.text.specs.Bytes.{ascii, number}
use Rattle.text.proofs.Writing.{then, put_as}
use Rattle.text.proofs.WordLines.{lists_in_order, words_alike, words_parted}
use Rattle.text.proofs.answer.lists.ListsText.put.Goals as goal

pub returns-then-not-same : goal.returns-then-not-same
unfolding ascii
returns-then-not-same c = λ t (p, (us, vs, u, v, e)).
    let sides = c.args.self.now.sides in
    let (l, r) = lists_in_order sides.left sides.right p us vs u v c.arranged.ensures in
    put_as (words_parted p us vs u v c.is_eq-same.ensures c.if-not-same.true ∙ sym e)
    (then (c.put_lists.ensures _ _ l r) (c.line.ensures (number c.args.self.now.parting.place) refl))

pub returns-else-not-same : goal.returns-else-not-same
returns-else-not-same c = λ t (p, (us, vs, u, v, e)).
    let sides = c.args.self.now.sides in
    let (l, r) = lists_in_order sides.left sides.right p us vs u v c.arranged.ensures in
    put_as (words_alike p us vs u v c.is_eq-same.ensures c.if-not-same.false ∙ sym e) (c.put_lists.ensures _ _ l r)
