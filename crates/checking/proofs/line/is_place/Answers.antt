-- `is_place` meets its contract: nothing, a dot alone, or sides.
use Rattle.std.proofs.Common.{◌∙◌, rules, tests, arith}
use Rattle.std.proofs.lemmas.Iterator.{YieldsList-from_slice}
use Rattle.std.proofs.lemmas.Iterator.Search.{all_from_yields_List}
use Rattle.std.proofs.lemmas.List.{take_rest}
use Rattle.checking.proofs.Placed.{side, no_place, root_place, side_place}
use Rattle.checking.proofs.line.is_place.Goals as goal

pub returns-in-empty : goal.returns-in-empty
returns-in-empty c = no_place c.args.text.now (omega arith)

pub returns-in-46 : goal.returns-in-46
returns-in-46 c = let s = c.args.text.now in c.is_empty.ensures ∙ rw (take_rest s 1) (root_place s (omega arith) (omega arith))

pub returns-in_default : goal.returns-in_default
returns-in_default c =
    let s = c.args.text.now in
    all_from_yields_List side _ _ c.all.result c.all.ensures.ran (YieldsList-from_slice s cc) (λ x b q k. search (rules, tests))
    ∙ side_place s (omega arith) (λ e. omega (arith, e))
