-- `law_in` meets its contract: the first law with the name is the only one.
use Rattle.std.proofs.Common.{rules, tests}
use Rattle.std.proofs.lemmas.Iterator.{YieldsList-from_slice}
use Rattle.std.proofs.lemmas.Iterator.Consumers.{YieldsList-from_copied}
use Rattle.std.proofs.lemmas.Iterator.Search.{find_from_yields_List}
use Rattle.search.specs.Coded.{laws}
use Rattle.checking.proofs.Spelling.{law_named, law_told}
use Rattle.checking.proofs.line.law_in.Goals as goal

pub returns : goal.returns
returns c =
    let bs = c.args.text.now in
    law_told bs c.find.result (find_from_yields_List (law_named bs) _ _ c.find.result c.find.ensures.ran (YieldsList-from_copied (YieldsList-from_slice laws cc)) (λ x b q k. search (rules, tests)))
