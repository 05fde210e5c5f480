-- `answer_weigh` meets its contract: an arm for each end of the search.
use Rattle.std.specs.Prelude.{Some, None}
use Rattle.weigh.specs.declared.layers.Stop.TheVariants.{Right, InHand}
use Rattle.weigh.proofs.Ending.{job_sides, why, ended_found, ended_cut, ended_over, ended_full}
use Rattle.weigh.proofs.answer.answer_weigh.Goals as goal

pub returns-in-Right : goal.returns-in-Right
returns-in-Right c = λ bs T.
    let l = c.numbers.ensures.is in
    let f = c.numbers-2.ensures.is in
    ended_found bs T l f c.search_weighed-ended.ensures c.args.out.now c.answer_path.result _ None c.in-Right.k
    (why bs T l f c.search_weighed-ended.ensures (Right c.in-Right.k) c.in-Right.is)
    (λ es n held. c.answer_path.ensures T.job es n (job_sides bs T l f) held)

pub returns-in-InHand : goal.returns-in-InHand
returns-in-InHand c = λ bs T.
    let l = c.numbers.ensures.is in
    let f = c.numbers-2.ensures.is in
    ended_found bs T l f c.search_weighed-ended.ensures c.args.out.now c.answer_path-in-InHand.result _ (Some c.in-InHand.atleast) c.in-InHand.k
    (why bs T l f c.search_weighed-ended.ensures (InHand c.in-InHand.k c.in-InHand.atleast) c.in-InHand.is)
    (λ es n held. c.answer_path-in-InHand.ensures T.job es n (job_sides bs T l f) held)

pub returns-in-Cut : goal.returns-in-Cut
returns-in-Cut c = λ bs T.
    let l = c.numbers.ensures.is in
    let f = c.numbers-2.ensures.is in
    ended_cut bs T l f c.search_weighed-ended.ensures c.args.out.now c.answer_none.result _ c.in-Cut.is
    (λ n. c.answer_none.ensures T.job n (job_sides bs T l f))

pub returns-in-Over : goal.returns-in-Over
returns-in-Over c = λ bs T.
    let l = c.numbers.ensures.is in
    let f = c.numbers-2.ensures.is in
    ended_over bs T l f c.search_weighed-ended.ensures c.args.out.now c.answer_none-in-Over.result _ c.in-Over.is
    (λ n. c.answer_none-in-Over.ensures T.job n (job_sides bs T l f))

pub returns-in-Full : goal.returns-in-Full
returns-in-Full c = λ bs T. ended_full bs T c.numbers.ensures.is c.numbers-2.ensures.is c.search_weighed-ended.ensures c.args.out.now c.in-Full.is
