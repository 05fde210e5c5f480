-- A byte by the tests that tell what it is.
use Prim.Native.Nat.{ℕ, ◌≤◌, ◌<◌, ◌-◌}
use native.Mathlib.Omega.{arith}
use mathlib.Core.Logic.{⊎_elim}
use mathlib.Core.Path.{◌≡◌, refl, sym, subst, ◌∙◌}
use borrow.Author.Tests.{ne_eqb, le-leb, lt-leb}
use Rattle.terms.specs.Theory.Order.{below?}
use Rattle.text.specs.declared.job.Sign.{Sign}
use Rattle.text.specs.declared.job.Sign.TheVariants.{Plus, Times, Variable, Fixed}
use Rattle.text.specs.declared.job.Mark.{Mark}
use Rattle.text.specs.declared.job.Mark.TheVariants as is
use Rattle.text.specs.Marks.{digit, mark}

-- a fact of every number, by one number and all others
pub at : (P : ℕ → Type 0) (k b : ℕ) → P k → ((b ≡ k → ⊥) → P b) → P b
at P k b p f =
    ⊎_elim
    (λ l. f (λ e. omega arith))
    (λ g. ⊎_elim (λ l. f (λ e. omega arith)) (λ h. let e : k ≡ b = omega arith in subst P e p) (below? k b))
    (below? b k)

module _ (b : ℕ) where
  -- past the signs and the space
  pub other : (b ≡ 43 → ⊥) → (b ≡ 42 → ⊥) → (b ≡ 118 → ⊥) → (b ≡ 99 → ⊥) → (b ≡ 32 → ⊥) → mark b ≡ digit b
  unfolding mark
  other p q r t s = rw (ne_eqb b 43 p, mark) (rw (ne_eqb b 42 q) (rw (ne_eqb b 118 r) (rw (ne_eqb b 99 t) (rw (ne_eqb b 32 s)))))

  pub inside : 48 ≤ b → b ≤ 57 → digit b ≡ is.Digit (b - 48)
  unfolding digit
  inside h k = rw (le-leb 48 b h, digit) (rw (le-leb b 57 k))

  pub below : b < 48 → digit b ≡ is.Foul
  unfolding digit
  below h = rw (lt-leb 48 b h, digit)

  pub above : 48 ≤ b → 57 < b → digit b ≡ is.Foul
  unfolding digit
  above h k = rw (le-leb 48 b h, digit) (rw (lt-leb b 57 k))

  -- the mark of a digit
  pub marked : 48 ≤ b → b ≤ 57 → mark b ≡ is.Digit (b - 48)
  marked h k = other (λ p. omega arith) (λ p. omega arith) (λ p. omega arith) (λ p. omega arith) (λ p. omega arith) ∙ inside h k

-- ---- the byte by its mark

abbrev pub byte : Sign → ℕ
byte Plus = 43
byte Times = 42
byte Variable = 118
byte Fixed = 99

sign_mark : (s : Sign) → mark (byte s) ≡ is.Sign s
unfolding mark
sign_mark Plus = refl
sign_mark Times = refl
sign_mark Variable = refl
sign_mark Fixed = refl

-- what a mark tells of the byte
abbrev pub Tells : ℕ → Mark → Type 0
Tells b (is.Sign s) = b ≡ byte s
Tells b (is.Digit d) = (48 ≤ b) × (b ≤ 57) × (d ≡ b - 48)
Tells b is.Space = b ≡ 32
Tells b is.Foul = Unit {0}

digit_tells : (b : ℕ) → Tells b (digit b)
digit_tells b =
    ⊎_elim
    (λ l. subst (Tells b) (sym (below b l)) tt)
    (λ h. ⊎_elim
    (λ l. subst (Tells b) (sym (above b h l)) tt)
    (λ k. subst (Tells b) (sym (inside b h k)) (h, k, refl))
    (below? 57 b))
    (below? b 48)

mark_tells : (b : ℕ) → Tells b (mark b)
unfolding mark
mark_tells b =
    at P 43 b refl
    (λ p. at P 42 b refl
    (λ q. at P 118 b refl
    (λ r. at P 99 b refl
    (λ t. at P 32 b refl (λ s. subst (Tells b) (sym (other b p q r t s)) (digit_tells b))))))
  where
    P : ℕ → Type 0
    P x = Tells x (mark x)

pub tells : (b : ℕ) (m : Mark) → mark b ≡ m → Tells b m
tells b m e = subst (Tells b) e (mark_tells b)

-- the mark of a byte that is no sign, by its value
pub ruleset by_value = (other, inside, below, above)
