-- Words counted against another: the counts tell which word stands where in the sorted list.
use Rattle.std.proofs.Common.{◌≡◌, ℕ, zero, suc, ◌+◌, ◌<◌, ◌≤◌, T, List, [], ◌∷◌, ◌++◌, length, drop, sym, refl, ap, ◌∙◌, arith}
use Prim.Native.Nat.compare
use Prim.Native.Nat.{compare}
use mathlib.Core.List.{foldr}
use Rattle.terms.specs.Lists.{◌∈◌, here, there}
use Rattle.terms.specs.Compare.{Ordering, lt, eq, gt, then, lexicographic, order_numbers}
use Rattle.terms.specs.Sort.{kept, before, Sorted}
use Rattle.terms.specs.Theory.Order.{flip_lt, flip_gt, cases, compare_order}
use Rattle.terms.specs.Theory.Folds.{fold_permutation}
use Rattle.terms.specs.Theory.Sorted.{sorted_least}
use Rattle.terms.specs.Theory.Sorting.{sort_permutation}
use Rattle.words.specs.Words.{Word, order_words, normal}
use Rattle.words.specs.Spelled.{spelled_word}
use Rattle.words.specs.Theory.Order.{word_order}
use Rattle.words.specs.Rank.{first_word, if_less, if_upto, tally}

-- one word after the others
pub tally_next : (g : Ordering → ℕ) (w : Word) (us : List Word) (u : Word) → tally g w (us ++ (u ∷ [])) ≡ tally g w us + g (order_words u w)
tally_next g w [] u = omega arith
tally_next g w (v ∷ us) u = omega (arith, tally_next g w us u)

-- sorting changes no count
pub tally_sorted : (g : Ordering → ℕ) (w : Word) (us : List Word) → tally g w (normal kept us) ≡ tally g w us
tally_sorted g w us = fold_permutation {r = kept} (record { swap = λ x y n. omega arith; twice = tt }) 0 (sort_permutation word_order us)

pub length_sorted : (us : List Word) → length (normal kept us) ≡ length us
length_sorted us =
    sym (as_fold (normal kept us)) ∙ fold_permutation {r = kept} (record { swap = λ x y n. refl; twice = tt }) 0 (sort_permutation word_order us) ∙ as_fold us
  where
    as_fold : (us : List Word) → foldr (λ u n. suc n) 0 us ≡ length us
    as_fold [] = refl
    as_fold (u ∷ us) = ap suc (as_fold us)

tally_none : (g : Ordering → ℕ) (w : Word) (us : List Word) → ((u : Word) → u ∈ us → g (order_words u w) ≡ 0) → tally g w us ≡ 0
tally_none g w [] h = refl
tally_none g w (u ∷ us) h = omega (arith, h u (here refl), tally_none g w us (λ v m. h v (there m)))

-- in a sorted list

module _ (w x : Word) (us : List Word) (s : Sorted kept order_words (x ∷ us)) where
  after_greater : order_words x w ≡ gt → tally if_upto w us ≡ 0
  after_greater e = tally_none if_upto w us (λ z m.
      let b : T (before kept (order_words x z)) = sorted_least kept word_order x us s.0 s.1 m in
      cases (order_words x z)
      (λ d. rw (flip_lt word_order (word_order.transitive (flip_gt word_order e) d)))
      (λ d. rw (← word_order.tie d, e))
      (λ d. absurd (rw d at b)))

  after_equal : order_words x w ≡ eq → tally if_less w us ≡ 0
  after_equal e = tally_none if_less w us (λ z m.
      let b : T (before kept (order_words x z)) = sorted_least kept word_order x us s.0 s.1 m in
      cases (order_words x z)
      (λ d. rw (flip_lt word_order (rw (word_order.tie e) at d)))
      (λ d. rw (← word_order.tie d, e))
      (λ d. absurd (rw d at b)))

-- a word stands first in what is left of a list from position i on
pub record Next (us : List Word) (i : ℕ) (u : Word) : Type 0 where
  pub rest : List Word
  pub is : drop i us ≡ u ∷ rest

pub greater_next : (w : Word) (us : List Word) (i : ℕ) → Sorted kept order_words us → tally if_upto w us ≤ i → i < length us
    → (x : Word) × Next us i x × (order_words w x ≡ lt)
greater_next w [] i s k h = absurd (omega arith)
greater_next w (x ∷ us) zero s k h =
    cases (order_words x w)
    (λ e. absurd (omega (arith, rw e at k)))
    (λ e. absurd (omega (arith, rw e at k)))
    (λ e. (x, record { rest = us; is = refl }, flip_gt word_order e))
greater_next w (x ∷ us) (suc i) s k h =
    let few : tally if_upto w us ≤ i =
    cases (order_words x w) (λ e. omega (arith, rw e at k)) (λ e. omega (arith, rw e at k)) (λ e. omega (arith, after_greater w x us s e)) in
    let (y, n, e) = greater_next w us i s.1 few (omega arith) in
    (y, record { rest = n.rest; is = n.is }, e)

pub equal_next : (w : Word) (us : List Word) (i : ℕ) → Sorted kept order_words us → tally if_less w us ≤ i → i < tally if_upto w us → Next us i w
equal_next w [] i s k h = absurd (omega arith)
equal_next w (x ∷ us) zero s k h =
    cases (order_words x w)
    (λ e. absurd (omega (arith, rw e at k)))
    (λ e. record { rest = us; is = ap (λ v. v ∷ us) (word_order.tie e) })
    (λ e. absurd (omega (arith, rw e at h, after_greater w x us s e)))
equal_next w (x ∷ us) (suc i) s k h =
    let n : Next us i w =
    cases (order_words x w)
    (λ e. equal_next w us i s.1 (omega (arith, rw e at k)) (omega (arith, rw e at h)))
    (λ e. equal_next w us i s.1 (omega (arith, after_equal w x us s e)) (omega (arith, rw e at h)))
    (λ e. absurd (omega (arith, rw e at h, after_greater w x us s e))) in
    record { rest = n.rest; is = n.is }

-- a run set against a spelled word

pub run_before : (run : List ℕ) (u : Word) (rest : List ℕ) → order_words (first_word run) u ≡ lt → order_numbers run (spelled_word u ++ rest) ≡ lt
unfolding lexicographic first_word then
run_before [] [] rest e = refl
run_before [] (n ∷ u) rest e = refl
run_before (zero ∷ run) [] rest e = cc
run_before (zero ∷ run) (n ∷ u) rest e = rw (compare.zero-suc n)
run_before (suc m ∷ run) [] rest e = cc
run_before (suc m ∷ run) (n ∷ u) rest e =
    rw (compare.suc-suc m n)
    (cases (compare m n) (λ d. rw d) (λ d. rw d (run_before run u rest (rw d at e))) (λ d. cc))

pub run_same : (run rest : List ℕ) → length (first_word run) < length run
    → order_numbers run (spelled_word (first_word run) ++ rest) ≡ order_numbers (drop (length (first_word run) + 1) run) rest
unfolding lexicographic first_word then
run_same [] rest h = absurd (omega arith)
run_same (zero ∷ run) rest h = refl
run_same (suc n ∷ run) rest h =
    let e : suc (length (first_word run)) + 1 ≡ suc (length (first_word run) + 1) = omega arith in
    rw (e, compare_order.reflexive (suc n)) (run_same run rest (omega arith))
