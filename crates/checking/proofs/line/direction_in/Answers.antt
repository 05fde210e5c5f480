-- `direction_in` meets its contract: the first direction with the name.
use Rattle.std.proofs.Common.{rules, tests, [], ◌∷◌}
use Rattle.std.proofs.lemmas.Iterator.{YieldsList-from_slice}
use Rattle.std.proofs.lemmas.Iterator.Consumers.{YieldsList-from_copied}
use Rattle.std.proofs.lemmas.Iterator.Search.{find_from_yields_List}
use Rattle.search.specs.declared.search.Direction.TheVariants.{Forward, Back}
use Rattle.checking.proofs.Spelling.{direction_named, direction_told}
use Rattle.checking.proofs.line.direction_in.Goals as goal

pub returns : goal.returns
returns c =
    let bs = c.args.text.now in
    direction_told bs c.find.result (find_from_yields_List (direction_named bs) _ _ c.find.result c.find.ensures.ran (YieldsList-from_copied (YieldsList-from_slice (Forward ∷ Back ∷ []) cc)) (λ x b q k. search (rules, tests)))
