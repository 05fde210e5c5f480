use Rattle.std.proofs.Common.{◌≡◌, ◌+◌, ◌-◌, ◌≤◌, ◌⊎◌, length, inl, inr, ⊎_elim, arith, rules}
use Rattle.std.proofs.lemmas.Bool.{cases_lt}
use Rattle.words.proofs.Tabled.{own_numbers, new_written, new_large, table_made}
use Rattle.words.proofs.candidate.renaming.small_numbers.Goals as goal

pub loop-i-init : goal.loop-i-init
loop-i-init c =
    let a = c.args in
    let n = c.min-i.result in
    let ended : (length a.names.now ≤ n) ⊎ (length a.numbers.now ≤ n) =
    ⊎_elim (λ l. inr (omega (arith, c.min-i.ensures))) inl (cases_lt n (length a.names.now)) in
    own_numbers a.names.now a.numbers.now n _ ended c.from_fn-table.ensures.items (λ i y q k. search rules)

pub loop-i-preserved-then-name-lt-SMALL : goal.loop-i-preserved-then-name-lt-SMALL
loop-i-preserved-then-name-lt-SMALL c =
    let a = c.args in
    let e : c.loop-i.i ≡ c.loop-i.i - 1 + 1 = omega arith in
    new_written a.names.now a.numbers.now (c.loop-i.i - 1) c.loop-i.table (omega (arith, c.min-i.ensures)) (omega (arith, c.min-i.ensures))
    (rw e at c.loop-i.invariant) c.if-name-lt-SMALL.true

pub loop-i-preserved : goal.loop-i-preserved
loop-i-preserved c =
    let a = c.args in
    let e : c.loop-i.i ≡ c.loop-i.i - 1 + 1 = omega arith in
    new_large a.names.now a.numbers.now (c.loop-i.i - 1) c.loop-i.table (omega (arith, c.min-i.ensures)) (omega (arith, c.min-i.ensures))
    (rw e at c.loop-i.invariant) c.if-name-lt-SMALL.false

pub returns : goal.returns
returns c =
    let e : c.loop-i.i ≡ 0 = omega arith in
    table_made _ _ (rw e at c.loop-i.invariant)
