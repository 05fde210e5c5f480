-- `put_words` meets its contract: the words are put one after the other.
use Rattle.std.proofs.Common.{◌≡◌, ◌+◌, ◌-◌, ◌≤◌, sym, subst, eqb, rules, tests, arith, refl, List, length, take, drop, length-drop}
use Rattle.std.proofs.lemmas.Bool.Decides.{nat_tests}
use Rattle.std.proofs.lemmas.Iterator.{YieldsList-from_slice}
use Rattle.std.proofs.lemmas.Iterator.Search.{position_from_yields_List}
use Rattle.words.specs.Words.{Word}
use Rattle.words.specs.Spelled.{spelled}
use Rattle.text.specs.Writer.{SameOutput}
use lib.Seq.{take_all}
use Rattle.text.proofs.Writing.{same_output, same_after}
use Rattle.text.proofs.WordTexts.{Before, Ended, none_before, one_more, put_no_words, put_all_words}
use Rattle.text.proofs.put.put_words.Goals as goal

pub returns-then-is_empty-clause-text : goal.returns-then-is_empty-clause-text
returns-then-is_empty-clause-text c = λ ws e. put_no_words c.args.list.now ws (grind (arith, nat_tests)) e c.put_byte.ensures

pub returns-then-is_empty-clause-same : goal.returns-then-is_empty-clause-same
returns-then-is_empty-clause-same c = same_output c.put_byte.ensures

pub loop-end-init : goal.loop-end-init
loop-end-init c = (omega arith, (refl, refl), λ ws e. none_before ws c.args.list.now c.args.w.now e)

pub loop-end-preserved : goal.loop-end-preserved
loop-end-preserved c =
    let rest = c.loop-end.rest.now in
    let end = c.in-Some.end in
    let left : take (length rest - (end + 1)) (drop (end + 1) rest) ≡ drop (end + 1) rest = take_all (length rest - (end + 1)) (drop (end + 1) rest) (omega (arith, length-drop (end + 1) rest)) in
    let E : Ended rest c.position.result =
    position_from_yields_List (λ n. eqb n 0) _ _ c.position.result c.position.ensures.ran (YieldsList-from_slice rest cc) (λ x b q k. search (rules, tests)) in
    subst (λ l. (c.loop-end.count + 1 + length l ≤ length c.args.list.now) × SameOutput c.args.w.now c.put_word.new.w
    × ((ws : List Word) → c.args.list.now ≡ spelled ws → Before ws l (c.loop-end.count + 1) c.args.w.now c.put_word.new.w)) (sym left) (
      omega (arith, length-drop (end + 1) rest, c.loop-end.invariant.0, c.in-Some.ensures.bound),
      same_after c.args.w.now c.loop-end.w c.put_word.new.w c.loop-end.invariant.1
          (same_after c.loop-end.w c.put_gap.new.self c.put_word.new.w (same_output c.put_gap.ensures) c.put_word.ensures.same),
      λ ws e. one_more end E c.in-Some.is (c.loop-end.invariant.2 ws e) c.put_gap.ensures c.put_word.ensures.text,
    )

pub returns-clause-text : goal.returns-clause-text
returns-clause-text c =
    let rest = c.loop-end.rest.now in
    let E : Ended rest c.position.result =
    position_from_yields_List (λ n. eqb n 0) _ _ c.position.result c.position.ensures.ran (YieldsList-from_slice rest cc) (λ x b q k. search (rules, tests)) in
    λ ws e. put_all_words ws (λ f. grind (arith, nat_tests)) e E c.in_default.is (c.loop-end.invariant.2 ws e)
