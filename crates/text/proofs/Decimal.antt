-- The digits of a number: one digit, and one digit more.
use mathlib.Core.Path.{◌≡◌, refl, sym, ap, ◌∙◌}
use mathlib.Core.List.{List, [], ◌∷◌, ◌++◌}
use Prim.Native.Nat.{ℕ, zero, suc, ◌+◌, ◌-◌, ◌/◌, ◌%◌, ◌≤◌, ◌<◌}
use mathlib.Core.Logic.{⊎_elim}
use native.Mathlib.Omega.{arith}
use borrow.Author.Tests.{lt-ltb, le-ltb}
use Rattle.terms.specs.Theory.Order.{below?}
use Rattle.text.specs.Bytes.{decimal, number}
use Rattle.text.specs.Writer.{Writes}
use Rattle.text.specs.declared.writer.Writer.{Writer}
use Rattle.text.proofs.Writing.{then, put_as}

decimal_small : (k n : ℕ) → n < 10 → decimal k n ≡ (48 + n) ∷ []
unfolding decimal
decimal_small zero n h = refl
decimal_small (suc k) n h = rw (lt-ltb n 10 h, decimal)

decimal_more : (k n : ℕ) → 10 ≤ n → decimal (suc k) n ≡ decimal k (n / 10) ++ ((48 + n % 10) ∷ [])
unfolding decimal
decimal_more k n h = rw (le-ltb n 10 h, decimal)

-- room for more digits changes nothing
enough : (j k n : ℕ) → n ≤ j → n ≤ k → decimal j n ≡ decimal k n
enough zero k n hj hk = decimal_small zero n (omega arith) ∙ sym (decimal_small k n (omega arith))
enough (suc j) zero n hj hk = decimal_small (suc j) n (omega arith) ∙ sym (decimal_small zero n (omega arith))
enough (suc j) (suc k) n hj hk =
    ⊎_elim (λ small. decimal_small (suc j) n small ∙ sym (decimal_small (suc k) n small))
    (λ large. decimal_more j n large ∙ ap (λ (l : List ℕ). l ++ ((48 + n % 10) ∷ [])) (enough j k (n / 10) (omega arith) (omega arith)) ∙ sym (decimal_more k n large))
    (below? n 10)

pub number_small : (n : ℕ) → n < 10 → number n ≡ (48 + n) ∷ []
unfolding number
number_small n h = decimal_small n n h

pub number_more : (n : ℕ) → 10 ≤ n → number n ≡ number (n / 10) ++ ((48 + n % 10) ∷ [])
unfolding number
number_more n h =
    let e : n ≡ suc (n - 1) = omega arith in
    ap (λ (k : ℕ). decimal k n) e
    ∙ decimal_more (n - 1) n h
    ∙ ap (λ (l : List ℕ). l ++ ((48 + n % 10) ∷ [])) (enough (n - 1) (n / 10) (n / 10) (omega arith) (omega arith))

pub put_small : {o o₁ : Writer} (n : ℕ) → n < 10 → Writes ((48 + n % 10) ∷ []) o o₁ → Writes (number n) o o₁
put_small n h p = let e : n % 10 ≡ n = omega arith in put_as (ap (λ (k : ℕ). (48 + k) ∷ []) e ∙ sym (number_small n h)) p

-- the last digit behind the others
pub put_more_digits : {o o₁ o₂ : Writer} (n : ℕ) → 10 ≤ n → Writes (number (n / 10)) o o₁ → Writes ((48 + n % 10) ∷ []) o₁ o₂
    → Writes (number n) o o₂
put_more_digits n h p q = put_as (sym (number_more n h)) (then p q)
