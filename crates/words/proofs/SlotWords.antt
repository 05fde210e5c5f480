-- The words in the slots of a list: one slot after another, and as they were put there.
use Rattle.std.proofs.Common.{◌≡◌, ℕ, ◌+◌, ◌*◌, ◌/◌, ◌≤◌, List, [], ◌∷◌, ◌++◌, length, take, le_refl, zero-add, arith, length-take-le, take-take}
use mathlib.Core.List.{map-append}
use Rattle.words.specs.Words.{Word}
use Rattle.words.specs.Rename.{count_from}
use Rattle.words.specs.Spelled.{SLOT, word_at, words_at, words_in}
use Rattle.words.specs.Multiply.{Puts, PutsWords}
use Rattle.words.specs.WordLists.{slot_words}
use Rattle.words.proofs.Decoded.{count_from_add}
use Rattle.words.proofs.Stand.{between_end, between_front, between_words}
use Rattle.words.proofs.Puts.{puts_both}

module _ (ws : List ℕ) where
  -- the words in some slots, then those in the next m
  pub words_in_add : (n m : ℕ) → words_in ws (n + m) ≡ words_in ws n ++ words_at ws (count_from m n)
  words_in_add n m = rw (count_from_add n m 0, zero-add, map-append)

  pub words_in_next : (n : ℕ) → words_in ws (n + 1) ≡ words_in ws n ++ (word_at ws n ∷ [])
  unfolding count_from
  words_in_next n = words_in_add n 1

-- some words put after others
pub puts_more : {us vs : List Word} {ws ws₁ ws₂ : List ℕ} {i j k : ℕ}
    → PutsWords us ws i j ws₁ → PutsWords vs ws₁ j k ws₂ → PutsWords (us ++ vs) ws i k ws₂
puts_more p q = record { few = λ h. q.few (p.few h); exact = λ f. puts_both f p.exact q.exact }

-- the words put into the first n slots are those in all the slots of that part
pub puts_listed : {us : List Word} {ws ws' : List ℕ} {n : ℕ} → Puts us ws 0 n ws' → SLOT * n ≤ length ws → slot_words (take (SLOT * n) ws') ≡ us
puts_listed {us} {ws} {ws'} {n} p h =
    let part = take (SLOT * n) ws' in
    let b = between_front part n (take-take (SLOT * n) (SLOT * n) ws' (le_refl (SLOT * n))) (le_refl n) p.put in
    let e : length part / SLOT ≡ length us = omega (arith, between_end b, length-take-le (SLOT * n) ws' (omega (arith, p.room))) in
    rw e (between_words b)
