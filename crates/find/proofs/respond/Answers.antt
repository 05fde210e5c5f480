-- `respond` meets its contract: what is printed by the number that the entry returned is what is due.
use Rattle.std.proofs.Common.{arith}
use Rattle.find.proofs.Printing.{call_prints}
use Rattle.find.proofs.respond.Goals as goal

pub returns : goal.returns
returns c = call_prints (omega arith) (omega arith) c.find-number.ensures c.printed.ensures
