-- The laws and directions of the code by number: each is read back from its number, and stands for the law of its name.
use Prim.Native.Nat.{ℕ, zero, suc, ◌+◌, ◌≤◌, ◌<◌}
use native.Mathlib.Omega.{arith}
use native.Mathlib.Numerals.{add-one}
use mathlib.Core.Path.{◌≡◌, refl, ap, ◌∙◌}
use mathlib.Core.Logic.{⊎_elim}
use mathlib.Core.Bool.{Bool, true, ◌&&◌}
use mathlib.Core.List.{[], ◌∷◌}
use lib.Dec.{T, eqb, eqb→eq}
use lib.ListN.{drop, drop_of_length-le}
use lib.Seq.{drop-cons}
use Rattle.terms.specs.Theory.Reflects.{both}
use Rattle.terms.specs.Theory.Order.{below?}
use Rattle.search.specs.Law as law
use Rattle.search.specs.Law.{semiring}
use Rattle.search.specs.Coded.{name_of, law_number, numbered_law, law_at, law_of, direction_number, numbered_direction}
use Rattle.search.specs.declared.search.Law.{Law}
use Rattle.search.specs.declared.search.Law.TheVariants.{AddAssoc, AddComm, AddZeroRight, MulAssoc, MulOneLeft, MulOneRight, LeftDistrib, RightDistrib, ZeroMul, MulZero}
use Rattle.search.specs.declared.search.Direction.{Direction}
use Rattle.search.specs.declared.search.Direction.TheVariants.{Forward, Back}

-- what holds of the laws in law order holds of each
pub each_law : (P : Law → Type 0) → P AddAssoc × P AddComm × P AddZeroRight × P MulAssoc × P MulOneLeft × P MulOneRight × P LeftDistrib × P RightDistrib × P ZeroMul × P MulZero
    → (w : Law) → P w
each_law P h AddAssoc = h.0
each_law P h AddComm = h.1
each_law P h AddZeroRight = h.2
each_law P h MulAssoc = h.3
each_law P h MulOneLeft = h.4
each_law P h MulOneRight = h.5
each_law P h LeftDistrib = h.6
each_law P h RightDistrib = h.7
each_law P h ZeroMul = h.8
each_law P h MulZero = h.9

pub law_read_back : (w : Law) → numbered_law (law_number w) ≡ w
law_read_back = each_law (λ w. numbered_law (law_number w) ≡ w) (refl, refl, refl, refl, refl, refl, refl, refl, refl, refl)

pub number_below : (w : Law) → law_number w < 10
number_below = each_law (λ w. law_number w < 10) (omega arith, omega arith, omega arith, omega arith, omega arith, omega arith, omega arith, omega arith, omega arith, omega arith)

pub direction_read_back : (d : Direction) → numbered_direction (direction_number d) ≡ d
direction_read_back Forward = refl
direction_read_back Back = refl

-- each stands for the law of its name
pub law_named : (w : Law) → (law_of w).name ≡ name_of w
unfolding law_at semiring
law_named = each_law (λ w. (law_of w).name ≡ name_of w) (refl, refl, refl, refl, refl, refl, refl, refl, refl, refl)

-- the laws from a number on
pub laws_left : (n : ℕ) → n < 10 → drop n semiring ≡ law_at n ∷ drop (n + 1) semiring
unfolding law_at semiring
laws_left n h = rw add-one (drop-cons semiring n _ h)

pub no_laws_left : (n : ℕ) → 10 ≤ n → drop n semiring ≡ []
unfolding semiring
no_laws_left n h = drop_of_length-le semiring h

-- a test of the numbers below k
unfoldable pub every : (ℕ → Bool) → ℕ → Bool
every f zero = true
every f (suc k) = f k && every f k

every_below : (f : ℕ → Bool) (k n : ℕ) → T (every f k) → n < k → T (f n)
unfolding every
every_below f zero n h p = absurd (omega arith)
every_below f (suc k) n h p =
    let (i, j) = both (f k) (every f k) h in
    ⊎_elim (λ q. every_below f k n j q) (λ q. let e : k ≡ n = omega arith in rw e at i) (below? n k)

-- a test that the laws of the list pass is passed by each
pub law_tested : (f : law.Law → Bool) → T (every (λ n. f (law_at n)) 10) → (w : Law) → T (f (law_of w))
law_tested f h w = every_below (λ n. f (law_at n)) 10 (law_number w) h (number_below w)

pub number_read_back : (n : ℕ) → n < 10 → law_number (numbered_law n) ≡ n
unfolding every
number_read_back n h = eqb→eq (law_number (numbered_law n)) n (every_below (λ n. eqb (law_number (numbered_law n)) n) 10 n tt h)

-- the law that a number stands for
pub law_numbered : (w : Law) (n : ℕ) → n < 10 → w ≡ numbered_law n → law_of w ≡ law_at n
law_numbered w n h e = ap law_at (ap law_number e ∙ number_read_back n h)
