-- `item` meets its contract: one byte is a sign, and of several the first is `v` or `c` and the others are a number.
use Rattle.std.proofs.Common.{rules, ◌≡◌, ap, sym, ◌∙◌, arith, get_or, true}
use Rattle.std.proofs.lemmas.List.{take_rest}
use Rattle.text.specs.declared.job.Sign.TheVariants.{Variable, Fixed}
use Rattle.text.specs.declared.job.Mark.TheVariants as is
use Rattle.text.specs.Marks.{mark}
use Rattle.text.proofs.Marking.{tells}
use Rattle.text.proofs.Reading.{no_item, no_letter, v_item, c_item}
use Rattle.text.proofs.job.item.Goals as goal

pub returns-in-empty : goal.returns-in-empty
returns-in-empty c = no_item c.args.text.now (omega arith)

pub returns-then-eq : goal.returns-then-eq
returns-then-eq c =
    let s = c.args.text.now in
    let e : c.mark_of-kind.result ≡ is.Sign Variable = search rules in
    rw (v_item s c.in-len1-up.len_at_least (tells (get_or s 0 0) (is.Sign Variable) (sym c.mark_of-kind.ensures ∙ e))) (rw (take_rest s 1) at c.letter.ensures)

pub returns-then-eq-2 : goal.returns-then-eq-2
returns-then-eq-2 c =
    let s = c.args.text.now in
    let e : c.mark_of-kind.result ≡ is.Sign Fixed = search rules in
    rw (c_item s c.in-len1-up.len_at_least (tells (get_or s 0 0) (is.Sign Fixed) (sym c.mark_of-kind.ensures ∙ e))) (rw (take_rest s 1) at c.letter-then-eq-2.ensures)

pub returns-else-eq-2 : goal.returns-else-eq-2
unfolding mark
returns-else-eq-2 c =
    no_letter c.args.text.now c.in-len1-up.len_at_least
    (λ p. let e : c.mark_of-kind.result ≡ is.Sign Variable = c.mark_of-kind.ensures ∙ ap mark p in let t : c.eq.result ≡ true = search rules in cc)
    (λ p. let e : c.mark_of-kind.result ≡ is.Sign Fixed = c.mark_of-kind.ensures ∙ ap mark p in let t : c.eq-else-eq.result ≡ true = search rules in cc)
