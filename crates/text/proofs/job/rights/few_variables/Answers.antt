-- `few_variables` meets its contract: the v letters have room in six numbers, or there are more.
use Rattle.std.proofs.Common.{rules, refl}
use Rattle.text.proofs.Rights.{few_variables}
use Rattle.text.proofs.job.rights.few_variables.Goals as goal

pub returns : goal.returns
returns c = rw c.is_some.ensures (search (few_variables, refl, rules))
