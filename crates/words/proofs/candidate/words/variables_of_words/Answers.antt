-- `variables_of_words` puts the v letters of the second list among those of the first.
use mathlib.Core.List.{flatten}
use Rattle.terms.specs.Letters.{FIXED}
use Rattle.terms.proofs.Gathered.{lists_none, lists_all, lists_variables}
use Rattle.words.specs.WordLists.{slot_words}
use Rattle.words.proofs.candidate.words.variables_of_words.Goals as goal

pub returns-in_err-n : goal.returns-in_err-n
returns-in_err-n c =
    let a = c.args in
    rw c.from_residual.ensures
    (lists_variables
    (lists_none FIXED (flatten (slot_words a.u.now)) (flatten (slot_words a.v.now)) a.out.now
    c.gather_words.new.out c.gather_words.result c.gather_words.ensures (c.in_err-n.was)))

pub returns : goal.returns
returns c =
    let a = c.args in
    lists_variables
    (lists_all FIXED (flatten (slot_words a.u.now)) (flatten (slot_words a.v.now)) a.out.now
    c.gather_words.new.out c.gather_words.result c.gather_words.ensures _
    (c.in_ok-n.was) c.gather_words-2.new.out c.gather_words-2.result c.gather_words-2.ensures)
