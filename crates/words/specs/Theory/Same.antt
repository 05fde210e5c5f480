-- The count of a term is the number of its words, so the quick answer is that of the lists.
use Rattle.std.specs.Prelude.{◌≡◌, ◌≤◌, ◌&&◌, eqb, List, length, refl}
use Rattle.std.proofs.Common.{sym, ◌∙◌, ap, arith, length-append}
use Rattle.std.proofs.Math.Dec.{compare_is_eq}
use mathlib.Core.List.{Permᴰ}
use Rattle.terms.specs.Sort.{kept}
use Rattle.terms.specs.Term.{Term, letter, zero, one, add, mul, size}
use Rattle.terms.specs.Theory.Reflects.{Reflects, eqb_reflects, both_hold, tests_agree}
use Rattle.terms.specs.Theory.Order.{tie_reflects}
use Rattle.terms.specs.Theory.Sorting.{sort_permutation}
use Rattle.words.specs.Words.{order_lists, words, expand}
use Rattle.words.specs.Counts.{count}
use Rattle.words.specs.Counting.{counted}
use Rattle.words.specs.Same.{same_words}
use Rattle.words.specs.Theory.Order.{word_order, list_order}
use Rattle.words.specs.Theory.Expand.{words_expand}
use Rattle.words.specs.Theory.Bound.{length_products, words_bound}

permuted_length : {A : Type 0} {xs ys : List A} → Permᴰ xs ys → length xs ≡ length ys
permuted_length Permᴰ.nil = refl
permuted_length (Permᴰ.cons e p) = omega (arith, permuted_length p)
permuted_length (Permᴰ.swap d e) = refl
permuted_length (Permᴰ.trans p q) = permuted_length p ∙ permuted_length q

pub count_expand : (t : Term) → length (expand t) ≡ count t
unfolding expand count
count_expand (letter n) = refl
count_expand zero = refl
count_expand one = refl
count_expand (add s t) = simp (length-append, count_expand s, count_expand t)
count_expand (mul s t) = simp (length_products, count_expand s, count_expand t)

-- the words are as many as the count says
pub count_words : (t : Term) → length (words t) ≡ count t
count_words t = ap length (words_expand kept t) ∙ permuted_length (sort_permutation word_order (expand t)) ∙ count_expand t

-- at most 324 of 31 nodes, which a number reaches
pub count_bound : (t : Term) → size t ≤ 31 → count t ≤ 324
count_bound t h = rw (count_words t) at (words_bound kept t h)

pub counted_words : (t : Term) → size t ≤ 31 → counted t ≡ length (words t)
counted_words t h = omega (arith, count_bound t h, count_words t)

-- terms with the same words have the same count
pub same_count : (s t : Term) → words s ≡ words t → count s ≡ count t
same_count s t e = sym (count_words s) ∙ ap length e ∙ count_words t

-- so to look at the counts first loses nothing
pub same_words_lists : (s t : Term) → same_words s t ≡ compare_is_eq (order_lists (words s) (words t))
unfolding same_words
same_words_lists s t =
    let counts = eqb (count s) (count t) in
    let lists = compare_is_eq (order_lists (words s) (words t)) in
    let alike : Reflects (words s ≡ words t) lists = tie_reflects list_order (words s) (words t) in
    tests_agree (counts && lists) lists (both_hold (count s ≡ count t) (words s ≡ words t) counts lists (eqb_reflects (count s) (count t)) alike) alike
    (λ h. h.1) (λ e. (same_count s t e, e))
