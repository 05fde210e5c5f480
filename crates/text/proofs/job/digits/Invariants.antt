-- `digits` meets its contract: the digits behind the number so far are those still to be read.
use Rattle.std.proofs.Common.{◌≡◌, drop}
use Rattle.text.specs.Bytes.{digits}
use Rattle.text.specs.Reading.{limited}
use Rattle.text.proofs.job.digits.Given as goal

abbrev pub invariant-loop-b : goal.invariant-loop-b
invariant-loop-b l = limited l.most (digits 0 l.text) ≡ limited l.most (digits l.n (drop l.b-index l.text))
