-- Decimal numbers, a digit at a time, against the largest number allowed.
use Prim.Native.Nat.{ℕ, ◌+◌, ◌*◌, ◌≤◌, ◌<◌, ◌-◌}
use native.Mathlib.Omega.{arith}
use mathlib.Core.Bool.{Bool, true, false, ◌&&◌}
use mathlib.Core.Logic.{⊎_elim}
use mathlib.Core.Option.{Option, none, some}
use mathlib.Core.List.{List, [], ◌∷◌}
use mathlib.Core.Path.{◌≡◌, refl, sym, ◌∙◌}
use lib.Dec.{leb}
use lib.ListN.{length, get_or}
use borrow.Author.Tests.{eq-eqb, le-leb, lt-leb, ne_eqb}
use Rattle.terms.specs.Theory.Order.{below?}
use Rattle.std.specs.Prelude.{Ok, Err}
use Rattle.text.specs.declared.job.NumberError.TheVariants.{TooLarge, Malformed}
use Rattle.text.specs.Bytes.{digits, read_number}
use Rattle.text.specs.Reading.{limited}

module _ (most n : ℕ) where
  pub allowed : n ≤ most → limited most (some n) ≡ Ok n
  unfolding limited
  allowed h = rw (le-leb n most h, limited)

  pub too_large : most < n → limited most (some n) ≡ Err TooLarge
  unfolding limited
  too_large h = rw (lt-leb n most h, limited)

pub malformed : (most : ℕ) → limited most none ≡ Err Malformed
unfolding limited
malformed most = refl

-- after a test: the two sides are the same where it passes
tested : (t : Bool) (most : ℕ) (x y : Option ℕ) → limited most x ≡ limited most y
    → limited most (elim t [ true ↦ x | false ↦ none ]) ≡ limited most (elim t [ true ↦ y | false ↦ none ])
tested true most x y e = e
tested false most x y e = refl

-- above the largest number allowed, how far above is of no matter
pub past : (bs : List ℕ) (most m n : ℕ) → most < m → most < n → limited most (digits m bs) ≡ limited most (digits n bs)
unfolding digits
past [] most m n h k = too_large most m h ∙ sym (too_large most n k)
past (b ∷ bs) most m n h k =
    tested (leb 48 b && leb b 57) most (digits (m * 10 + (b - 48)) bs) (digits (n * 10 + (b - 48)) bs)
    (past bs most (m * 10 + (b - 48)) (n * 10 + (b - 48)) (omega arith) (omega arith))

module _ (b : ℕ) (bs : List ℕ) (n : ℕ) where
  low : b < 48 → digits n (b ∷ bs) ≡ none
  unfolding digits
  low p = rw (lt-leb 48 b p, digits)

  high : 48 ≤ b → 57 < b → digits n (b ∷ bs) ≡ none
  unfolding digits
  high q p = rw (le-leb 48 b q, lt-leb b 57 p, digits)

  pub foul : (48 ≤ b → b ≤ 57 → ⊥) → digits n (b ∷ bs) ≡ none
  foul f = ⊎_elim low (λ q. ⊎_elim (high q) (λ p. absurd (f q p)) (below? 57 b)) (below? b 48)

  pub next : 48 ≤ b → b ≤ 57 → digits n (b ∷ bs) ≡ digits (n * 10 + (b - 48)) bs
  unfolding digits
  next p q = rw (le-leb 48 b p, le-leb b 57 q, digits)

pub done : (bs : List ℕ) (n : ℕ) → length bs ≤ 0 → digits n bs ≡ some n
unfolding digits
done [] n h = refl
done (b ∷ bs) n h = absurd (omega (arith, h))

-- a text is a number: none if it is empty or starts with a needless zero, what its digits make otherwise

pub empty : (bs : List ℕ) → length bs ≤ 0 → read_number bs ≡ none
unfolding read_number
empty [] h = refl
empty (b ∷ bs) h = absurd (omega (arith, h))

pub needless : (bs : List ℕ) → 1 < length bs → get_or bs 0 0 ≡ 48 → read_number bs ≡ none
unfolding read_number
needless [] h e = refl
needless (b ∷ []) h e = absurd (omega (arith, h))
needless (b ∷ c ∷ bs) h e = rw (eq-eqb b 48 e, read_number)

pub single : (bs : List ℕ) → length bs ≡ 1 → read_number bs ≡ digits 0 bs
unfolding read_number
single [] h = absurd (omega (arith, h))
single (b ∷ []) h = refl
single (b ∷ c ∷ bs) h = absurd (omega (arith, h))

pub several : (bs : List ℕ) → 1 < length bs → (get_or bs 0 0 ≡ 48 → ⊥) → read_number bs ≡ digits 0 bs
unfolding read_number
several [] h f = absurd (omega (arith, h))
several (b ∷ []) h f = absurd (omega (arith, h))
several (b ∷ c ∷ bs) h f = rw (ne_eqb b 48 f, read_number)

-- what a number's item gives: it is empty or malformed, has one digit, begins with a needless 0, or has several digits
pub ruleset number_read = (empty, malformed, single, needless, several)
