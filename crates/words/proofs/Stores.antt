-- Numbers stored one after the other.
use Rattle.std.proofs.Common.{◌≡◌, ℕ, suc, ◌+◌, ◌-◌, ◌<◌, ◌≤◌, List, [], ◌∷◌, ◌++◌, length, get_or, take, drop, set, sym, refl, ap, ◌∙◌, append_assoc, add-zero, add-one, arith, length-append, ⊎_elim, min, drop_of_length-le, length-take-le, drop-cons, take_at, drop_at}
use Rattle.std.proofs.lemmas.Bool.{cases_lt}
use lib.Seq.{sets, sets-eq, set_out, take-set-le}

-- past the end nothing is stored
sets_out : (xs : List ℕ) (i : ℕ) (vs : List ℕ) → length xs ≤ i → sets xs i vs ≡ xs
sets_out xs i [] h = refl
sets_out xs i (v ∷ vs) h = rw (set_out xs i v h) (sets_out xs (suc i) vs (omega arith))

-- and past the end is wherever
pub store_start : (xs : List ℕ) (i : ℕ) (vs : List ℕ) (start : ℕ) → start ≡ min i (length xs) → sets xs start vs ≡ sets xs i vs
store_start xs i vs start e =
    ⊎_elim
    (λ h. sets_out xs start vs (omega arith) ∙ sym (sets_out xs i vs (omega arith)))
    (λ h. let d : start ≡ i = omega arith in ap (λ k. sets xs k vs) d)
    (cases_lt (length xs) i)

-- the numbers from i on are still to be stored from p on
module _ (xs ns ys : List ℕ) (p i : ℕ) (e : sets xs p (drop i ns) ≡ ys) where
  pub store_next : i < length ns → sets (set xs p (get_or ns i 0)) (p + 1) (drop (i + 1) ns) ≡ ys
  store_next h = rw (add-one p, add-one i) (rw (drop-cons ns i 0 h) at e)

  pub store_full : length xs ≤ p → xs ≡ ys
  store_full h = sym (sets_out xs p (drop i ns) h) ∙ e

  pub store_done : length ns ≤ i → xs ≡ ys
  store_done h = rw (drop_of_length-le ns h) at e

  -- as many are stored as fit from `start` on
  pub store_end : (start : ℕ) → p ≡ start + i → start ≤ length xs → i ≡ min (length ns) (length xs - start) → xs ≡ ys
  store_end start d h k = ⊎_elim (λ f. store_full (omega arith)) (λ f. store_done (omega arith)) (cases_lt i (length ns))

-- one list after the other is one list
pub sets_append : (xs : List ℕ) (i : ℕ) (us vs : List ℕ) → sets (sets xs i us) (i + length us) vs ≡ sets xs i (us ++ vs)
sets_append xs i [] vs = rw add-zero
sets_append xs i (u ∷ us) vs = let e : i + suc (length us) ≡ suc i + length us = omega arith in rw e (sets_append (set xs i u) (suc i) us vs)

-- what stands before the stores is as it was
pub take_sets : (n : ℕ) (xs : List ℕ) (i : ℕ) (vs : List ℕ) → n ≤ i → take n (sets xs i vs) ≡ take n xs
take_sets n xs i [] h = refl
take_sets n xs i (v ∷ vs) h = take_sets n (set xs i v) (suc i) vs (omega arith) ∙ take-set-le n xs i v h

module _ (xs : List ℕ) (i : ℕ) (vs : List ℕ) (h : i + length vs ≤ length xs) where
  front : length (take i xs) ≡ i
  front = length-take-le i xs (omega arith)

  pub drop_sets : drop i (sets xs i vs) ≡ vs ++ drop (i + length vs) xs
  drop_sets = rw (sets-eq vs xs i h, append_assoc) (drop_at (take i xs) (vs ++ drop (i + length vs) xs) i front)

  pub take_stored : take (i + length vs) (sets xs i vs) ≡ take i xs ++ vs
  take_stored =
      rw (sets-eq vs xs i h)
      (take_at (take i xs ++ vs) (drop (i + length vs) xs) (i + length vs) (length-append (take i xs) vs ∙ ap (λ k. k + length vs) front))
