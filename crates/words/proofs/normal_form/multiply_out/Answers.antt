-- `multiply_out` meets its contract by that of `expand_at`, from the run's start and slot 0 on.
use Rattle.words.proofs.Expanded.{multiplied_out}
use Rattle.std.proofs.Common.{rules}
use Rattle.words.proofs.normal_form.multiply_out.Goals as goal

pub returns : goal.returns
returns c = search (multiplied_out, rules)
