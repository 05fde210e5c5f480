-- `judge_terms` meets its contract: v letters, a line at least, and the chain.
use Rattle.std.proofs.Common.{◌≡◌, ℕ, ◌<◌, false, eqb, length, sym, ◌∙◌, arith}
use Rattle.std.proofs.lemmas.Bool.Decides.{Decides-eqb}
use Rattle.checking.proofs.Judging.{many_letters, no_step, not_led, all_led}
use Rattle.checking.proofs.judge.judge_terms.Goals as goal

some_byte : (n : ℕ) → eqb n 0 ≡ false → 0 < n
some_byte n e = grind arith

pub returns-then-not-few_variables : goal.returns-then-not-few_variables
returns-then-not-few_variables c =
    let F = rw (c.numbers.ensures.is, c.numbers-2.ensures.is) at c.few_variables.ensures.few in
    many_letters F c.if-not-few_variables.true

pub returns-then-is_empty : goal.returns-then-is_empty
returns-then-is_empty c =
    let F = rw (c.numbers.ensures.is, c.numbers-2.ensures.is) at c.few_variables.ensures.few in
    no_step F c.if-not-few_variables.false ((Decides-eqb (length c.args.steps.text.now) 0).0 (sym c.is_empty.ensures ∙ c.if-is_empty.true))

pub returns-then-not-leads : goal.returns-then-not-leads
returns-then-not-leads c =
    let F = rw (c.numbers.ensures.is, c.numbers-2.ensures.is) at c.few_variables.ensures.few in
    not_led F c.if-not-few_variables.false (some_byte _ (sym c.is_empty.ensures ∙ c.if-is_empty.false))
    (rw c.numbers-3.ensures.is at c.leads.ensures.leads) c.if-not-leads.true

pub returns : goal.returns
returns c =
    let F = rw (c.numbers.ensures.is, c.numbers-2.ensures.is) at c.few_variables.ensures.few in
    all_led F c.if-not-few_variables.false (some_byte _ (sym c.is_empty.ensures ∙ c.if-is_empty.false))
    (rw c.numbers-3.ensures.is at c.leads.ensures.leads) c.if-not-leads.false
