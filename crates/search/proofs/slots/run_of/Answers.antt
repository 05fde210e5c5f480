-- `run_of` meets its contract: no slot that has a run is cut short.
use Rattle.std.proofs.Common.{arith}
use Rattle.search.proofs.Tracing.{shows_none, shows_run}
use Rattle.search.proofs.slots.run_of.Goals as goal

pub returns-then-ws-from : goal.returns-then-ws-from
returns-then-ws-from c = let a = c.args in shows_none a.ws.now a.k (omega arith)

pub returns-in-Some : goal.returns-in-Some
returns-in-Some c = let h = c.in-Some.ensures.lookup in rw h.0.2 (shows_run c.args.ws.now c.args.k h.0.1)

pub returns-in-None : goal.returns-in-None
returns-in-None c = let a = c.args in shows_none a.ws.now a.k (grind (arith, c.in-None.ensures.lookup))
