-- Merging two lists of slots whose words are sorted: each turn stores the next slot of the one or the other.
use Rattle.std.proofs.Common.{◌≡◌, ℕ, ◌+◌, ◌-◌, ◌<◌, ◌≤◌, Bool, true, false, List, [], ◌∷◌, ◌++◌, length, get_or, take, drop, set, sym, refl, ap, ◌∙◌, is_le, true≢false, add-one, arith, length-set, length-drop, drop-cons, take-suc-set}
use mathlib.Core.List.{map-append}
use borrow.Rule.Slice.PartMut.{mid_of}
use Rattle.terms.specs.Promises.{Compares, ordering_of}
use Rattle.std.specs.declared.cmp.Ordering as answered
use Rattle.std.specs.declared.cmp.Ordering.TheVariants.{Less, Equal, Greater}
use Rattle.terms.specs.Sort.{kept, before, Sorted}
use Rattle.words.specs.Words.{Word, order_words, normal}
use Rattle.words.specs.Spelled.{word_at, words_at}
use Rattle.words.specs.Sort.{first_next, from_first}
use Rattle.words.specs.Theory.Order.{word_order}
use Rattle.words.specs.Theory.Merge.{Merging, first_taken, second_taken}
use Rattle.words.proofs.Parts.{end_lent}

-- where the next comes from

module _ (ws : List ℕ) where
  pub no_first : (a b : List ℕ) → length a ≡ 0 → false ≡ from_first ws a b
  unfolding first_next
  no_first [] b h = refl
  no_first (x ∷ a) b h = absurd (omega arith)

  pub no_second : (a b : List ℕ) → 0 < length a → length b ≡ 0 → true ≡ from_first ws a b
  unfolding first_next
  no_second [] b h k = absurd (omega arith)
  no_second (x ∷ a) [] h k = refl
  no_second (x ∷ a) (y ∷ b) h k = absurd (omega arith)

  before_kept : (r : answered.Ordering) → is_le r ≡ before kept (ordering_of r)
  before_kept Less = refl
  before_kept Equal = refl
  before_kept Greater = refl

  -- one slot before another, as `compare` tells of their words
  pub slots_compared : {u v : Word} {r : answered.Ordering} (x y : ℕ) → u ≡ word_at ws x → v ≡ word_at ws y → Compares u v r
      → is_le r ≡ before kept (order_words (word_at ws x) (word_at ws y))
  slots_compared {r = r} x y d e p = before_kept r ∙ ap (before kept) (rw (d, e) at p.numbers)

  -- where both lists have a next
  pub next_slots : (a b : List ℕ) (i j : ℕ) → i < length a → j < length b
      → from_first ws (drop i a) (drop j b) ≡ before kept (order_words (word_at ws (get_or a i 0)) (word_at ws (get_or b j 0)))
  unfolding first_next
  next_slots a b i j h l = rw (drop-cons a i 0 h, drop-cons b j 0 l) refl

  pub first_there : (a b : List ℕ) → from_first ws a b ≡ true → 0 < length a
  first_there [] b e = absurd (true≢false (sym e ∙ sym (no_first [] b refl)))
  first_there (x ∷ a) b e = omega arith

  pub second_there : (a b : List ℕ) → from_first ws a b ≡ false → 0 < length a + length b → 0 < length b
  second_there [] b e h = omega arith
  second_there (x ∷ a) [] e h = absurd (true≢false (no_second (x ∷ a) [] (omega arith) refl ∙ e))
  second_there (x ∷ a) (y ∷ b) e h = omega arith

-- one turn

-- of the slots in a the first i, and of those in b the first j, are merged: k in all
pub record MergedTo (ws a b : List ℕ) (i j k : ℕ) (out : List ℕ) : Type 0 where
  pub all : k ≡ i + j
  pub first : i ≤ length a
  pub second : j ≤ length b
  pub room : length out ≡ length a + length b
  pub is : Sorted kept order_words (words_at ws a) → Sorted kept order_words (words_at ws b)
      → Merging order_words (normal kept (words_at ws a ++ words_at ws b)) (words_at ws (take k out)) (words_at ws (drop i a)) (words_at ws (drop j b))

module _ (ws a b : List ℕ) where
  -- what is left of a list is lent
  pub next_is : (i j : ℕ) {r v : Bool} → r ≡ from_first ws (mid_of i (length a - i) a) (mid_of j (length b - j) b) → r ≡ v
      → from_first ws (drop i a) (drop j b) ≡ v
  next_is i j e f = sym (rw (end_lent a i, end_lent b j) at e) ∙ f

  module _ {i j k : ℕ} {out : List ℕ} (m : MergedTo ws a b i j k out) where
    pub first_left : from_first ws (drop i a) (drop j b) ≡ true → i < length a
    first_left e = omega (arith, first_there ws (drop i a) (drop j b) e, length-drop i a)

    pub second_left : k < length out → from_first ws (drop i a) (drop j b) ≡ false → j < length b
    second_left h e =
        let l : 0 < length (drop i a) + length (drop j b) = omega (arith, m.all, m.room, length-drop i a, length-drop j b) in
        omega (arith, length-drop j b, second_there ws (drop i a) (drop j b) e l)

    pub merge_first : k < length out → from_first ws (drop i a) (drop j b) ≡ true → MergedTo ws a b (i + 1) j (k + 1) (set out k (get_or a i 0))
    merge_first h e =
        let l = first_left e in
        let d = drop-cons a i 0 l in
        record {
          all = omega (arith, m.all);
          first = omega arith;
          second = m.second;
          room = length-set out k (get_or a i 0) ∙ m.room;
          is = λ s t. rw (add-one, take-suc-set out k (get_or a i 0) h, map-append, add-one) (first_taken word_order (rw d at (m.is s t)) (rw d at e));
        }

    pub merge_second : k < length out → from_first ws (drop i a) (drop j b) ≡ false → MergedTo ws a b i (j + 1) (k + 1) (set out k (get_or b j 0))
    merge_second h e =
        let l = second_left h e in
        let d = drop-cons b j 0 l in
        record {
          all = omega (arith, m.all);
          first = m.first;
          second = omega arith;
          room = length-set out k (get_or b j 0) ∙ m.room;
          is = λ s t. rw (add-one, take-suc-set out k (get_or b j 0) h, map-append, add-one) (second_taken word_order (rw d at (m.is s t)) (rw d at e));
        }
