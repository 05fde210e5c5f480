-- How many numbers the next terms of a list take.
use Prim.Native.Nat.{ℕ, zero, suc, ◌+◌, ◌-◌, ◌<◌, ◌≤◌, max}
use native.Mathlib.Omega.{arith}
use native.Mathlib.Nat.{zero-add, suc-add}
use native.Mathlib.Numerals.{add-one, sub-one}
use mathlib.Core.Path.{◌≡◌, refl, ap, ◌∙◌}
use mathlib.Core.Bool.{Bool, true, false}
use mathlib.Core.Logic.{⊎_elim}
use mathlib.Core.List.{List, [], ◌∷◌, ◌++◌, append_assoc}
use lib.Dec.{ltb}
use lib.ListN.{length, drop, get_or, length-drop, drop_of_length-le}
use borrow.Author.Tests.{lt-ltb, le-ltb}
use Rattle.terms.specs.Term as term
use Rattle.terms.specs.Term.{Term, letter, add, mul, size}
use Rattle.terms.specs.Run.{ADD, run}
use Rattle.terms.specs.Held.{Fine, Holds}
use Rattle.terms.specs.Numbers.{more, skip, end_at}
use Rattle.terms.specs.Promises.{Ends}
use Rattle.terms.specs.Theory.Order.{below?}
use Rattle.terms.proofs.Positions.{drop_one}

pub skip_none : (xs : List ℕ) → skip xs 0 ≡ 0
unfolding skip
skip_none [] = refl
skip_none (x ∷ xs) = refl

skip_within : (xs : List ℕ) (k : ℕ) → skip xs k ≤ length xs
unfolding skip
skip_within [] k = omega arith
skip_within (x ∷ xs) zero = omega arith
skip_within (x ∷ xs) (suc k) = omega (arith, skip_within xs (more (ltb x ADD) k))

more_add : (b : Bool) (j k : ℕ) → more b (j + k) ≡ more b j + k
more_add true j k = refl
more_add false j k = omega arith

-- first some terms, then some more
pub skip_add : (xs : List ℕ) (j k : ℕ) → skip xs (j + k) ≡ skip xs j + skip (drop (skip xs j) xs) k
unfolding skip
skip_add [] j k = refl
skip_add (x ∷ xs) zero k = rw (zero-add, zero-add)
skip_add (x ∷ xs) (suc j) k =
    let b = ltb x ADD in
    rw suc-add (omega (arith, ap (skip xs) (more_add b j k) ∙ skip_add xs (more b j) k))

skip_run : (t : Term) (k : ℕ) (ys : List ℕ) → Fine t → skip (run t ++ ys) (suc k) ≡ size t + skip ys k
unfolding skip run size Fine
skip_run (letter n) k ys f = rw (lt-ltb n ADD (omega arith)) (omega arith)
skip_run term.zero k ys f = omega arith
skip_run term.one k ys f = omega arith
skip_run (add s t) k ys f = rw (append_assoc (run s) (run t) ys, skip_run s (suc k) (run t ++ ys) f.0, skip_run t k ys f.1) (omega arith)
skip_run (mul s t) k ys f = rw (append_assoc (run s) (run t) ys, skip_run s (suc k) (run t ++ ys) f.0, skip_run t k ys f.1) (omega arith)

pub skip_held : {xs : List ℕ} {i : ℕ} {t : Term} → Holds xs i t → skip (drop i xs) 1 ≡ size t
skip_held {t = t} h = rw (h.here, skip_run t 0 h.rest h.fine, skip_none) (omega arith)

-- a count from position i on, with k terms to go and the end at n: one number further, and its end
module _ (xs : List ℕ) (i k n : ℕ) (e : i + skip (drop i xs) k ≡ n) where
  pub skip_leaf : i < length xs → 0 < k → get_or xs i 0 < ADD → i + 1 + skip (drop (i + 1) xs) (k - 1) ≡ n
  unfolding skip
  skip_leaf h p q = go k p (rw (drop_one xs i h) at e)
    where
      go : (k : ℕ) → 0 < k → i + skip (get_or xs i 0 ∷ drop (i + 1) xs) k ≡ n → i + 1 + skip (drop (i + 1) xs) (k - 1) ≡ n
      go zero p e = absurd (omega arith)
      go (suc k) p e = rw sub-one (omega (arith, rw (lt-ltb (get_or xs i 0) ADD q) at e))

  pub skip_node : i < length xs → 0 < k → ADD ≤ get_or xs i 0 → i + 1 + skip (drop (i + 1) xs) (k + 1) ≡ n
  unfolding skip
  skip_node h p q = go k p (rw (drop_one xs i h) at e)
    where
      go : (k : ℕ) → 0 < k → i + skip (get_or xs i 0 ∷ drop (i + 1) xs) k ≡ n → i + 1 + skip (drop (i + 1) xs) (k + 1) ≡ n
      go zero p e = absurd (omega arith)
      go (suc k) p e = rw (add-one (suc k)) (omega (arith, rw (le-ltb (get_or xs i 0) ADD q) at e))

  skip_past : length xs ≤ i → i ≡ n
  unfolding skip
  skip_past h = omega (arith, rw (drop_of_length-le xs h) at e)

  pub skip_all : k ≤ 0 → i ≡ n
  skip_all h = let z : k ≡ 0 = omega arith in omega (arith, skip_none (drop i xs), rw z at e)

-- the end of a list, or a position behind it
pub skip_end : (xs : List ℕ) (at i k m : ℕ) → i + skip (drop i xs) k ≡ end_at xs at → length xs ≤ i → (at ≤ length xs → i ≤ length xs) → m ≡ max at (length xs)
    → m ≡ end_at xs at
unfolding end_at
skip_end xs at i k m e h f g =
    ⊎_elim
    (λ p. omega (arith, skip_past xs at 1 (end_at xs at) refl (omega arith)))
    (λ p. omega (arith, f p, skip_past xs i k (end_at xs at) e h))
    (below? (length xs) at)

pub ends : {xs : List ℕ} {at r : ℕ} → r ≡ end_at xs at → Ends xs at r
unfolding end_at
ends {xs} {at} e =
    record {
      is = e;
      forward = omega arith;
      within = λ h. omega (arith, skip_within (drop at xs) 1, length-drop at xs);
      exact = λ t h. e ∙ ap (λ n. at + n) (skip_held h);
    }
