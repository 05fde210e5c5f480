-- `accept_sides` meets its contract: each refusal in its turn, or left's run kept.
use Rattle.std.proofs.Common.{rules}
use Rattle.text.proofs.Accepts.{letters_found, differ_found, after_found, accept_after, refuse_before}
use Rattle.text.proofs.job.accept.accept_sides.Goals as goal

pub returns-then-all_pass : goal.returns-then-all_pass
returns-then-all_pass c =
    let few = letters_found {xs = c.numbers-a.result.now} c.all_pass.ensures (λ ys b told. search rules) in
    let differ = differ_found {xs = c.numbers-a.result.now} c.all_pass-2.ensures (λ ys b told. search rules) in
    let later = after_found {xs = c.numbers-a.result.now} c.all_pass-3.ensures (λ ys b told. search rules) in
    rw (← c.numbers-a.ensures.is)
    (accept_after c.args.limits few c.if-not-all_pass.false c.in_range.ensures c.if-not-in_range.false differ c.if-not-all_pass-2.false
    c.requires.0 later c.requires.1 c.if-all_pass.true)

pub returns-then-not-alone : goal.returns-then-not-alone
returns-then-not-alone c =
    let few = letters_found {xs = c.numbers-a.result.now} c.all_pass.ensures (λ ys b told. search rules) in
    let differ = differ_found {xs = c.numbers-a.result.now} c.all_pass-2.ensures (λ ys b told. search rules) in
    let later = after_found {xs = c.numbers-a.result.now} c.all_pass-3.ensures (λ ys b told. search rules) in
    rw (← c.numbers-a.ensures.is)
    (refuse_before c.args.limits few c.if-not-all_pass.false c.in_range.ensures c.if-not-in_range.false differ c.if-not-all_pass-2.false
    c.requires.0 later c.if-not-alone.true c.if-all_pass.false)
