-- `index_of` meets its contract.
use Rattle.std.proofs.Common.{◌∙◌, eqb, rules, tests}
use Rattle.std.proofs.lemmas.Iterator.{YieldsList-from_slice}
use Rattle.std.proofs.lemmas.Iterator.Search.{position_from_yields_List}
use Rattle.text.proofs.Rendered.{index_found}
use Rattle.text.proofs.kernel_bridge.index_of.Goals as goal

pub returns : goal.returns
returns c =
    let names = c.args.names.now in
    c.unwrap_or.ensures
    ∙ index_found c.args.n names c.position.result
    (position_from_yields_List (eqb c.args.n) _ _ c.position.result c.position.ensures.ran (YieldsList-from_slice names cc) (λ x b q k. search (rules, tests)))
