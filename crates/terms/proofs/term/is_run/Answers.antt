use borrow.Author.Rules.{rules}
use Rattle.terms.proofs.Spelled.{spells_atom, spells_two, spells_over, spells_foul, spells_end, reads}
use Rattle.terms.proofs.term.is_run.Goals as goal
use Rattle.terms.proofs.term.is_run.Goals.{then-need-eq0-via-then-need-eq0, then-need-eq0-via-else-need-eq0+then-x-gt-MUL, then-x-lt-ADD, else-x-lt-ADD}

pub returns-then-need-eq0 : goal.returns-then-need-eq0
returns-then-need-eq0 c =
    reads (elim c.then-need-eq0.branch [
      | then-need-eq0-via-then-need-eq0 w ↦ search (spells_over, rules)
      | then-need-eq0-via-else-need-eq0+then-x-gt-MUL w ↦ search (spells_foul, rules)
    ])

pub loop-x-preserved : goal.loop-x-preserved
loop-x-preserved c = elim c.if-x-lt-ADD.branch [
  | then-x-lt-ADD w ↦ rw w.need-is (search (spells_atom, rules))
  | else-x-lt-ADD w ↦ rw w.need-is (search (spells_two, rules))
]

pub returns : goal.returns
returns c = reads (search (spells_end, rules))
