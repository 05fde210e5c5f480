-- `read_rights` meets its contract: the right sides passed are terms, all small and in their slots or one large.
use Rattle.text.proofs.Rights.{ReadTo}
use Rattle.text.proofs.job.rights.read_rights.Given as goal

abbrev pub invariant-loop-r : goal.invariant-loop-r
invariant-loop-r l = ReadTo l.w.lines.now l.w.rights l.r l.rest l.rights l.read
