-- Words that stand in slots: which they are, and that they depend on the numbers up to their last slot only.
use Rattle.std.proofs.Common.{◌≡◌, ℕ, suc, ◌+◌, ◌*◌, ◌≤◌, List, [], ◌∷◌, ◌++◌, length, take, drop, sym, refl, ap, ◌∙◌, subst, ap₂, ⊎_elim, eq-or-lt_of_le, arith, take-take}
use Rattle.std.proofs.lemmas.List.{drop-take}
use Rattle.terms.proofs.Positions.{front_getD}
use Rattle.words.specs.Words.{Word}
use Rattle.words.specs.Rename.{count_from}
use Rattle.words.specs.Spelled.{SLOT, word_at, words_at}
use Rattle.words.specs.Multiply.{InSlot, Between, none, more}

-- where the first n numbers of two lists agree
front_part : (xs ys : List ℕ) (n i m : ℕ) → take n ys ≡ take n xs → i + m ≤ n → take m (drop i ys) ≡ take m (drop i xs)
front_part xs ys n i m e h =
    sym (drop-take i m ys)
    ∙ ap (drop i) (sym (take-take (i + m) n ys h) ∙ ap (take (i + m)) e ∙ take-take (i + m) n xs h)
    ∙ drop-take i m xs

module _ {ws : List ℕ} {k : ℕ} {u : Word} where
  pub in_slot_word : InSlot ws k u → word_at ws k ≡ u
  unfolding word_at
  in_slot_word s = ap (λ n. take n (drop (SLOT * k + 1) ws)) s.count ∙ s.letters

  in_slot_front : (ws' : List ℕ) (n : ℕ) → take n ws' ≡ take n ws → SLOT * k + SLOT ≤ n → InSlot ws k u → InSlot ws' k u
  in_slot_front ws' n e h s =
      record {
        count = front_getD ws ws' n (SLOT * k) e (omega arith) ∙ s.count;
        letters = front_part ws ws' n (SLOT * k + 1) (length u) e (omega (arith, s.short)) ∙ s.letters;
        short = s.short;
      }

module _ {ws : List ℕ} where
  pub between_end : {j k : ℕ} {us : List Word} → Between ws j k us → k ≡ j + length us
  between_end (none e) = omega arith
  between_end (more s b) = omega (arith, between_end b)

  pub between_front : (ws' : List ℕ) (n : ℕ) {j k : ℕ} {us : List Word} → take (SLOT * n) ws' ≡ take (SLOT * n) ws → k ≤ n → Between ws j k us → Between ws' j k us
  between_front ws' n e h (none d) = none d
  between_front ws' n e h (more s b) =
      more (in_slot_front ws' (SLOT * n) e (omega (arith, between_end b)) s) (between_front ws' n e h b)

  pub between_append : {i j k : ℕ} {us vs : List Word} → Between ws i j us → Between ws j k vs → Between ws i k (us ++ vs)
  between_append {k = k} {vs = vs} (none e) c = subst (λ i. Between ws i k vs) (sym e) c
  between_append (more s b) c = more s (between_append b c)

  pub between_words : {j k : ℕ} {us : List Word} → Between ws j k us → words_at ws (count_from (length us) j) ≡ us
  unfolding count_from
  between_words (none e) = refl
  between_words (more s b) = ap₂ ◌∷◌ (in_slot_word s) (between_words b)

-- the last of the words
pub record Last (ws : List ℕ) (j k : ℕ) (us : List Word) : Type 0 where
  pub firsts : List Word
  pub last : Word
  pub are : us ≡ firsts ++ (last ∷ [])
  pub there : Between ws j k firsts
  pub in_slot : InSlot ws k last

module _ {ws : List ℕ} where
  at_end : {j k : ℕ} {u : Word} {us : List Word} → j ≡ k → InSlot ws j u → Between ws (suc j) (suc k) us → Last ws j k (u ∷ us)
  at_end {u = u} e s (none d) = record { firsts = []; last = u; are = refl; there = none e; in_slot = rw e at s }
  at_end e s (more t b) = absurd (omega (arith, between_end b))

  last_more : {j k : ℕ} {u : Word} {us : List Word} → InSlot ws j u → Last ws (suc j) k us → Last ws j k (u ∷ us)
  last_more {u = u} s l = record { firsts = u ∷ l.firsts; last = l.last; are = ap (λ vs. u ∷ vs) l.are; there = more s l.there; in_slot = l.in_slot }

  pub between_last : {j k : ℕ} {us : List Word} → j ≤ k → Between ws j (suc k) us → Last ws j k us
  between_last h (none e) = absurd (omega arith)
  between_last h (more s b) = ⊎_elim (λ e. at_end e s b) (λ l. last_more s (between_last l b)) (eq-or-lt_of_le h)
