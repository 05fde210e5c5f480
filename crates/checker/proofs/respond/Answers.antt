-- `respond` meets its contract: what is printed by the number that the entry returned is what is due.
use Rattle.std.proofs.Common.{arith}
use Rattle.checker.proofs.Printing.{call_prints}
use Rattle.checker.proofs.respond.Goals as goal

pub returns : goal.returns
returns c = call_prints c.args.input.now (omega arith) c.check-number.ensures c.printed.ensures
