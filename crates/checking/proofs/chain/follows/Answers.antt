-- `follows` meets its contract: the place is found, and the law is tested there.
use Rattle.std.proofs.Common.{◌≡◌, ℕ, List, ◌++◌, length, take, ap, length-append, arith}
use Rattle.checking.proofs.Following.{no_place, used}
use Rattle.checking.proofs.chain.follows.Goals as goal

-- two lists put one after the other
joined : (before after first second : List ℕ) {xs ys : List ℕ} → before ≡ first → after ≡ second → xs ≡ before → ys ≡ xs ++ after → ys ≡ first ++ second
joined before after first second e f g h = cc

pub returns-in_default : goal.returns-in_default
returns-in_default c = no_place c.args.step c.args.source.now c.args.target.now (rw c.numbers.ensures.is at c.in_default.ensures)

pub invariant_of-pair : goal.invariant_of-pair
invariant_of-pair c =
    let source = c.args.source.now in
    let target = c.args.target.now in
    let both : take c.append-end.result c.append-end.new.out ≡ source ++ target =
    joined c.numbers-2.result.now c.numbers-3.result.now source target c.numbers-2.ensures.is c.numbers-3.ensures.is c.append-middle.ensures.1 c.append-end.ensures.1 in
    record { within = omega (arith, ap length both, length-append source target, ap length c.numbers-2.ensures.is) }

pub is_use-requires : goal.is_use-requires
is_use-requires c =
    let p = c.in-Some.ensures in
    omega (arith, p.within, ap length c.numbers.ensures.is, ap length c.numbers-2.ensures.is)

pub returns : goal.returns
returns c =
    let source = c.args.source.now in
    let target = c.args.target.now in
    let both : take c.append-end.result c.append-end.new.out ≡ source ++ target =
    joined c.numbers-2.result.now c.numbers-3.result.now source target c.numbers-2.ensures.is c.numbers-3.ensures.is c.append-middle.ensures.1 c.append-end.ensures.1 in
    let middle : c.append-middle.result ≡ length source = omega (arith, c.append-middle.ensures.0, ap length c.numbers-2.ensures.is) in
    used c.args.step source target _ c.in-Some.at both (rw c.numbers.ensures.is at c.in-Some.ensures) (rw middle at c.is_use.ensures)
