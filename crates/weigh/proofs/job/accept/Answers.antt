-- `accept` meets its contract: each refusal in its turn, or the sides in their order.
use Rattle.weigh.proofs.Accepting.{refuse_letters, refuse_limits, cost_over, weight_over, refuse_same, accept_job}
use Rattle.weigh.proofs.job.accept.Goals.{then-w-gt-MOST_COST-via-then-w-gt-MOST_COST, then-w-gt-MOST_COST-via-else-w-gt-MOST_COST+then-not-weights_in_range}
use Rattle.weigh.proofs.job.accept.Goals as goal

pub returns-then-not-few_variables : goal.returns-then-not-few_variables
returns-then-not-few_variables c =
    let F = rw (c.numbers.ensures.is, c.numbers-2.ensures.is) at c.few_variables.ensures in
    refuse_letters F c.if-not-few_variables.true

pub returns-then-not-in_range : goal.returns-then-not-in_range
returns-then-not-in_range c =
    let F = rw (c.numbers.ensures.is, c.numbers-2.ensures.is) at c.few_variables.ensures in
    refuse_limits F c.if-not-few_variables.false c.in_range.ensures c.if-not-in_range.true

pub returns-then-w-gt-MOST_COST : goal.returns-then-w-gt-MOST_COST
returns-then-w-gt-MOST_COST c =
    let F = rw (c.numbers.ensures.is, c.numbers-2.ensures.is) at c.few_variables.ensures in
    elim c.then-w-gt-MOST_COST.branch [
      | then-w-gt-MOST_COST-via-then-w-gt-MOST_COST w ↦ cost_over F c.if-not-few_variables.false c.in_range.ensures c.if-not-in_range.false w.if-w-gt-MOST_COST.true
      | then-w-gt-MOST_COST-via-else-w-gt-MOST_COST+then-not-weights_in_range w ↦
          weight_over F c.if-not-few_variables.false c.in_range.ensures c.if-not-in_range.false w.if-w-gt-MOST_COST.false w.weights_in_range.ensures
          w.if-not-weights_in_range.true
    ]

pub returns-then-equal : goal.returns-then-equal
returns-then-equal c =
    let F = rw (c.numbers.ensures.is, c.numbers-2.ensures.is) at c.few_variables.ensures in
    refuse_same F c.if-not-few_variables.false c.in_range.ensures c.if-not-in_range.false c.if-w-gt-MOST_COST.false c.weights_in_range.ensures
    c.if-not-weights_in_range.false (rw (c.numbers-3.ensures.is, c.numbers-4.ensures.is) at c.equal.ensures) c.if-equal.true

pub returns : goal.returns
returns c =
    let F = rw (c.numbers.ensures.is, c.numbers-2.ensures.is) at c.few_variables.ensures in
    accept_job F c.if-not-few_variables.false c.in_range.ensures c.if-not-in_range.false c.if-w-gt-MOST_COST.false c.weights_in_range.ensures
    c.if-not-weights_in_range.false (rw (c.numbers-3.ensures.is, c.numbers-4.ensures.is) at c.equal.ensures) c.if-equal.false c.oriented-left.ensures
