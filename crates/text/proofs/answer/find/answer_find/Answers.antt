-- `answer_find` meets its contract: the one search, and the answer from what it leaves.
use Prim.Native.Nat.{ℕ, ◌≤◌, ◌<◌}
use Rattle.search.specs.declared.replies.Reply.{Reply}
use Rattle.search.specs.declared.replies.Reply.TheVariants.{Unnoted}
use native.Mathlib.Omega.{arith}
use mathlib.Core.Path.{◌≡◌, sym, ◌∙◌}
use mathlib.Core.List.{List}
use lib.ListN.{length, take, replicate}
use lib.Seq.{length-take-le}
use Rattle.text.proofs.Finding.{all_known, find_out, find_blocks}
use Rattle.text.proofs.answer.find.answer_find.Goals as goal
use Rattle.text.proofs.answer.find.answer_find.Goals.{else-alone-via-then-alone+else-runs_out, else-alone-via-else-alone}

abbrev room : List Reply
room = replicate 16 Unnoted

-- the part of the room that is lent has a reply for each right side
lent : {n : ℕ} → n ≤ 16 → length (take n room) ≡ n
lent {n} h = length-take-le n room h

pub returns-then-runs_out : goal.returns-then-runs_out
returns-then-runs_out c = λ bs s ts m read run runs count is.
    let one : length ts ≡ 1 = omega (arith, count, c.if-alone.true) in
    let known = all_known bs s ts m read c.search_bounded_rewrite-ended.ensures c.is_cut-cut.ensures c.search_bounded_rewrite-ended.auto.ws (omega (arith, one)) run runs (count ∙ sym (lent c.requires.1)) is in
    find_out bs s ts m read known c.args.out.now one c.if-runs_out.ensures

pub returns : goal.returns
returns c = λ bs s ts m read run runs count is.
    let some_rights : 0 < length ts = omega (arith, count, c.requires.0) in
    let known = all_known bs s ts m read c.search_bounded_rewrite-ended.ensures c.is_cut-cut.ensures c.search_bounded_rewrite-ended.auto.ws some_rights run runs (count ∙ sym (lent c.requires.1)) is in
    find_blocks bs s ts m read known c.args.out.now c.answer_blocks.result c.answer_blocks.new.out some_rights
    (λ one. elim c.else-alone.branch [
      | else-alone-via-then-alone+else-runs_out w ↦ w.if-runs_out.ensures
      | else-alone-via-else-alone w ↦ absurd (w.if-alone.false (sym count ∙ one))
    ])
    (c.answer_blocks.ensures s ts m _ known)
