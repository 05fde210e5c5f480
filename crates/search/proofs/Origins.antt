-- What was stored of an origin is read back.
use Prim.Native.Nat.{ℕ, suc, ◌+◌, ◌-◌, ◌≤◌, ◌<◌}
use native.Mathlib.Omega.{arith}
use native.Mathlib.Nat.{add-zero}
use mathlib.Core.Path.{◌≡◌, refl, sym, ap, ◌∙◌}
use mathlib.Core.List.{List, [], ◌∷◌, ◌++◌, append_assoc}
use borrow.Author.Tests.{ne_eqb}
use lib.ListN.{length, take, drop, get_or, set, get_or-append}
use lib.Seq.{sets, sets-eq, length-take-le, get_or-set_other, get_or-append-add}
use Rattle.terms.proofs.Positions.{front_getD}
use Rattle.search.specs.Coded.{law_number}
use Rattle.search.specs.Origins.{numbers, origin_at}
use Rattle.search.specs.declared.slots.Origin.{Origin}
use Rattle.search.specs.declared.slots.Origin.TheVariants.{Start, From}
use Rattle.search.proofs.Coded.{law_read_back, direction_read_back}

-- the numbers of an origin, wherever they stand
pub origin_back : (ws : List ℕ) (at : ℕ) (o : Origin) → ((k : ℕ) → k < 4 → get_or ws (at + k) 0 ≡ get_or (numbers o) k 0) → origin_at ws at ≡ o
origin_back ws at Start e = rw (rw add-zero at (e 0 (omega arith)))
origin_back ws at (From s) e =
    let d : law_number s.law + 1 - 1 ≡ law_number s.law = omega arith in
    rw (rw add-zero at (e 0 (omega arith)), e 1 (omega arith), e 2 (omega arith), e 3 (omega arith), ne_eqb (law_number s.law + 1) 0 (λ q. omega arith), d, law_read_back, direction_read_back)

-- where the four numbers of two lists agree
pub origin_same : (xs ys : List ℕ) (at : ℕ) → ((k : ℕ) → k < 4 → get_or ys (at + k) 0 ≡ get_or xs (at + k) 0) → origin_at ys at ≡ origin_at xs at
origin_same xs ys at e = rw (rw add-zero at (e 0 (omega arith)), e 1 (omega arith), e 2 (omega arith), e 3 (omega arith))

pub origin_front : (xs ys : List ℕ) (n at : ℕ) → take n ys ≡ take n xs → at + 4 ≤ n → origin_at ys at ≡ origin_at xs at
origin_front xs ys n at e h = origin_same xs ys at (λ k p. front_getD xs ys n (at + k) e (omega arith))

-- what a row of stores left at its k-th place
pub get_d_sets : (xs : List ℕ) (i : ℕ) (vs : List ℕ) (k : ℕ) → i + length vs ≤ length xs → k < length vs → get_or (sets xs i vs) (i + k) 0 ≡ get_or vs k 0
get_d_sets xs i vs k h hk =
    let e : length (take i xs) ≡ i = length-take-le i xs (omega arith) in
    ap (λ l. get_or l (i + k) 0) (sets-eq vs xs i h ∙ append_assoc (take i xs) vs (drop (i + length vs) xs))
    ∙ ap (λ n. get_or (take i xs ++ (vs ++ drop (i + length vs) xs)) (n + k) 0) (sym e)
    ∙ get_or-append-add (take i xs) (vs ++ drop (i + length vs) xs) k 0
    ∙ get_or-append vs (drop (i + length vs) xs) 0 k hk

-- and elsewhere
pub getD_sets_other : (xs : List ℕ) (i : ℕ) (vs : List ℕ) (p : ℕ) → (i ≤ p → i + length vs ≤ p) → get_or (sets xs i vs) p 0 ≡ get_or xs p 0
getD_sets_other xs i [] p h = refl
getD_sets_other xs i (v ∷ vs) p h =
    getD_sets_other (set xs i v) (suc i) vs p (λ q. let z = h (omega arith) in omega arith)
    ∙ get_or-set_other xs i p v 0 (λ e. let z = h (omega arith) in omega arith)

pub four : (o : Origin) → length (numbers o) ≡ 4
four Start = refl
four (From s) = refl
