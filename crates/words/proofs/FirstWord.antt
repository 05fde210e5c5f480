-- A word set against the first word that a run spells, letter by letter.
use Rattle.std.proofs.Common.{◌≡◌, ℕ, zero, suc, ◌+◌, ◌-◌, ◌<◌, ◌≤◌, true, false, not, cond, eqb, Some, List, ◌∷◌, map, length, get_or, drop, sym, refl, ap, ◌∙◌, ne_eqb, arith, drop_of_length-le}
use Prim.Native.Nat.{compare}
use Rattle.std.proofs.lemmas.Bool.{true≢false, false≢true}
use Rattle.std.proofs.lemmas.List.Quantifiers.{position-Some}
use Rattle.std.proofs.lemmas.List.Sums.{prefix_len_is}
use Rattle.std.proofs.lemmas.List.Recursion.{is_position_or_len}
use Rattle.std.specs.List.{position}
use Rattle.std.proofs.lemmas.Cmp.{ranked}
use Rattle.std.specs.Ordering.{nat_cmp, is_ne, MatchOrdering}
use Rattle.std.specs.declared.cmp.Ordering as answered
use Rattle.std.specs.declared.cmp.Ordering.TheVariants.{Less, Equal, Greater}
use Rattle.terms.specs.Promises.{ordering_of}
use Rattle.terms.specs.Compare.{Ordering, lt, eq, gt, then, lexicographic}
use Rattle.terms.specs.Theory.Order.{flip_lt, compare_order, compare_below}
use Rattle.terms.proofs.Positions.{drop_one}
use Rattle.words.specs.Words.{order_words}
use Rattle.words.specs.Rank.{first_word}

letter_first : (y : ℕ) (ys : List ℕ) → (y ≡ 0 → ⊥) → first_word (y ∷ ys) ≡ (y - 1) ∷ first_word ys
unfolding first_word
letter_first zero ys h = absurd (h refl)
letter_first (suc n) ys h = let e : suc n - 1 ≡ n = omega arith in rw e

module _ (g : ℕ → ℕ) (a b : List ℕ) (i : ℕ) (o : Ordering) (e : order_words (map g (drop i a)) (first_word (drop i b)) ≡ o) where
  pub run_ended : i < length a → length b ≤ i → gt ≡ o
  unfolding lexicographic first_word
  run_ended ha hb = rw (drop_one a i ha, drop_of_length-le b hb) at e

  pub end_here : i < length a → i < length b → get_or b i 0 ≡ 0 → gt ≡ o
  unfolding lexicographic first_word
  end_here ha hb z = rw (drop_one a i ha, drop_one b i hb, z) at e

  pub both_ended : length a ≤ i → length b ≤ i → eq ≡ o
  unfolding lexicographic first_word
  both_ended ha hb = rw (drop_of_length-le a ha, drop_of_length-le b hb) at e

  pub end_after : length a ≤ i → i < length b → get_or b i 0 ≡ 0 → eq ≡ o
  unfolding lexicographic first_word
  end_after ha hb z = rw (drop_of_length-le a ha, drop_one b i hb, z) at e

  pub longer_after : length a ≤ i → i < length b → (get_or b i 0 ≡ 0 → ⊥) → lt ≡ o
  unfolding lexicographic
  longer_after ha hb z = rw (drop_of_length-le a ha, drop_one b i hb, letter_first (get_or b i 0) (drop (i + 1) b) z) at e

  module _ (x : ℕ) (p : x ≡ g (get_or a i 0)) (ha : i < length a) (hb : i < length b) (z : get_or b i 0 ≡ 0 → ⊥) where
    both_here : then (compare x (get_or b i 0 - 1)) (order_words (map g (drop (i + 1) a)) (first_word (drop (i + 1) b))) ≡ o
    unfolding lexicographic
    both_here = rw (drop_one a i ha, drop_one b i hb, letter_first (get_or b i 0) (drop (i + 1) b) z, ← p) at e

    module _ {c : answered.Ordering} (k : c ≡ nat_cmp x (get_or b i 0 - 1)) where
      pub differs_here : is_ne c ≡ true → ordering_of c ≡ o
      unfolding then
      differs_here n = go c n (ranked x (get_or b i 0 - 1) c k)
        where
          go : (c : answered.Ordering) → is_ne c ≡ true → MatchOrdering c (x < get_or b i 0 - 1) (x ≡ get_or b i 0 - 1) (get_or b i 0 - 1 < x) → ordering_of c ≡ o
          go Less n h = rw (compare_below x (get_or b i 0 - 1) h) at both_here
          go Equal n h = absurd (false≢true n)
          go Greater n h = rw (flip_lt compare_order (compare_below (get_or b i 0 - 1) x h)) at both_here

      pub equal_here : is_ne c ≡ false → order_words (map g (drop (i + 1) a)) (first_word (drop (i + 1) b)) ≡ o
      unfolding then
      equal_here n = go c n (ranked x (get_or b i 0 - 1) c k)
        where
          go : (c : answered.Ordering) → is_ne c ≡ false → MatchOrdering c (x < get_or b i 0 - 1) (x ≡ get_or b i 0 - 1) (get_or b i 0 - 1 < x)
              → order_words (map g (drop (i + 1) a)) (first_word (drop (i + 1) b)) ≡ o
          go Less n h = absurd (true≢false n)
          go Equal n h = rw (← h, compare_order.reflexive) at both_here
          go Greater n h = absurd (true≢false n)

-- the place of the first 0, where the first word ends
pub word_ends : (xs : List ℕ) (n : ℕ) → Some n ≡ position (eqb 0) xs → (n ≡ length (first_word xs)) × (n < length xs)
unfolding first_word
word_ends xs n e =
    let at = position-Some (eqb 0) xs n 0 (sym e) in (
      sym (prefix_len_is (λ y. not (eqb 0 y)) xs n 0 (omega (arith, at.0)) (λ k l. ap not (at.2 k l)) (λ l. ap not at.1))
          ∙ sym (is_position_or_len (λ ys. length (first_word ys)) (eqb 0) refl (λ x ys. letter_counted x ys) xs),
      at.0,
    )
  where
    letter_counted : (x : ℕ) (ys : List ℕ) → length (first_word (x ∷ ys)) ≡ cond (eqb 0 x) 0 (1 + length (first_word ys))
    letter_counted zero ys = refl
    letter_counted (suc x) ys = rw (ne_eqb 0 (suc x) (λ e. omega arith)) (omega arith)
