-- `run_out` meets its contract.
use Rattle.weigh.proofs.Holding.{holding, holding_none}
use Rattle.weigh.proofs.layers.run_out.Goals as goal

pub returns-in-Some : goal.returns-in-Some
returns-in-Some c = holding c.args.atleast c.in-Some.ensures

pub returns-in-None : goal.returns-in-None
returns-in-None c = holding_none c.args.atleast c.in-None.ensures
