-- `weights_in_range` meets its contract: each weight is 1 to 9.
use Rattle.std.proofs.Common.{◌∙◌, rules, tests}
use Rattle.std.proofs.lemmas.Iterator.{YieldsList-from_slice}
use Rattle.std.proofs.lemmas.Iterator.Search.{all_from_yields_List}
use Rattle.weigh.proofs.Accepting.{may_weigh, each_ranged}
use Rattle.weigh.proofs.job.weights_in_range.Goals as goal

pub returns : goal.returns
returns c =
    let ns = c.args.weights.now in
    all_from_yields_List may_weigh _ _ c.all.result c.all.ensures.ran (YieldsList-from_slice ns cc) (λ x b q k. search (rules, tests)) ∙ each_ranged ns
