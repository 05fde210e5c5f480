-- The answer meets its contract: an arm for the lists that are put, and one for none.
use mathlib.Core.Path.{refl, sym}
use Rattle.std.proofs.lemmas.Option.{MatchOption-at_some, MatchOption-at_none}
use Rattle.text.specs.Bytes.{ascii}
use Rattle.text.specs.TermText.{write_term}
use Rattle.text.specs.Words.{word_list}
use Rattle.text.proofs.Writing.{then, put_as}
use Rattle.text.proofs.Renaming.{put_term_lines, put_no_lists, put_word_lines}
use Rattle.text.proofs.answer.rename.RenamedText.put.Goals as goal

pub returns-in-None : goal.returns-in-None
unfolding ascii
returns-in-None c = λ t h.
    put_as (sym h.6)
    (then (put_term_lines h.0 (c.line.ensures (write_term h.0.left) (h.0.left, h.3, refl)) (c.line-2.ensures (write_term h.0.right) (h.0.right, h.4, refl)))
    (put_no_lists h.1 h.2 (MatchOption-at_none _ _ c.in-None.is h.5) (c.line-in-None.ensures (ascii "-") refl) (c.line-in-None-2.ensures (ascii "-") refl)))

pub returns-in-Some : goal.returns-in-Some
unfolding ascii
returns-in-Some c = λ t h.
    put_as (sym h.6)
    (then (put_term_lines h.0 (c.line.ensures (write_term h.0.left) (h.0.left, h.3, refl)) (c.line-2.ensures (write_term h.0.right) (h.0.right, h.4, refl)))
    (put_word_lines h.1 h.2 (MatchOption-at_some _ _ _ c.in-Some.is h.5) (λ ws e. c.line-in-Some.ensures (word_list ws) (ws, e, refl)) (λ ws e. c.line-in-Some-2.ensures (word_list ws) (ws, e, refl))))
