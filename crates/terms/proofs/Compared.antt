-- Two lists compared number by number: how they differ, and what their order and a test of them say of that.
use Prim.Native.Nat.{ℕ, zero, suc, ◌+◌, ◌*◌, ◌/◌, ◌<◌, min, compare}
use native.Mathlib.Nat.{mul-zero, mul-suc}
use native.Mathlib.Omega.{arith}
use mathlib.Core.Path.{◌≡◌, refl, sym, ap, ◌∙◌}
use mathlib.Core.Bool.{Bool, true, false, not}
use mathlib.Core.Logic.{⊎_elim}
use mathlib.Core.List.{List, []}
use denote.Ref.{Bor}
use lib.Dec.{compare_is_eq}
use lib.ListN.{length, take, drop, get_or, drop_of_length-le}
use lib.Pointwise.{pointwise}
use lib.Seq.{take_all, take-add, drop-drop}
use Rattle.std.specs.Prelude.{Option, Some, None, is_some, nat_eq}
use Rattle.std.specs.Option.{option_cmp}
use Rattle.std.specs.Ordering.{nat_cmp}
use Rattle.std.specs.Slice.{IsItemAt}
use Rattle.std.specs.Simd.{first_chunks}
use Rattle.std.specs.Cmp.Lexicographic.{told_text}
use Rattle.std.specs.declared.cmp.Ordering as answered
use Rattle.std.specs.declared.cmp.Ordering.TheVariants.{Equal}
use Rattle.std.proofs.lemmas.Bool.{false≢true}
use Rattle.std.proofs.lemmas.Cmp.{ranked, by_ranked}
use Rattle.terms.specs.Compare.{order_numbers}
use Rattle.terms.specs.Differ.{Agree, Unlike, DifferAt}
use Rattle.terms.specs.Term.{same}
use Rattle.terms.specs.Promises.{Differs, ordering_of, Compares, Equals}
use Rattle.terms.specs.Theory.Reflects.{Reflects, tests_agree}
use Rattle.terms.specs.Theory.Order.{flip_lt, tie_reflects, compare_order, compare_below, below?}
use Rattle.terms.specs.Theory.Coding.{numbers_order}
use Rattle.terms.specs.Theory.Differ.{first_order, differ_once, differ_apart, differ_first, differ_order}
use Rattle.terms.specs.Theory.TermOrder.{term_order}
use Rattle.terms.specs.Theory.Held.{order_of, place_of}
use Rattle.terms.proofs.Positions.{drop_one}

-- the promise of `first_difference`, from what was found of the numbers

module _ {xs ys : List ℕ} where
  differs_at : (k : ℕ) → DifferAt xs ys k → Differs xs ys (Some k)
  differs_at k p =
      let apart = differ_apart xs ys k p in
      record {
        numbers = (apart, differ_once xs ys p (differ_first compare_order xs ys apart));
        terms = λ s t m n. let (i, j) = place_of k m n p in (rw (← m.whole, ← n.whole) p, i, j);
      }

  same_all : xs ≡ ys → Differs xs ys None
  same_all e = record { numbers = e; terms = λ s t m n. term_order.tie (sym (order_of m n) ∙ rw e (numbers_order.reflexive ys)) }

-- the first i numbers agree: what the next ones say

module _ (a b : List ℕ) (i : ℕ) (A : Agree a b i) where
  unlike_here : Unlike (drop i a) (drop i b) → Differs a b (Some i)
  unlike_here p = differs_at i (record { agree = A; here = p })

  module _ (ha : i < length a) (hb : i < length b) where
    pub differ_here : (get_or a i 0 ≡ get_or b i 0 → ⊥) → Differs a b (Some i)
    differ_here d = unlike_here (rw (drop_one a i ha, drop_one b i hb) d)

  -- where one of the lists ends
  module _ (m : ℕ) (e : m ≡ min (length a) (length b)) (ended : i ≡ m) where
    pub both_ended : length a ≡ length b → Differs a b None
    both_ended h = same_all (sym (take_all i a (omega arith)) ∙ A.front ∙ take_all i b (omega arith))

    pub one_ended : (length a ≡ length b → ⊥) → Differs a b (Some m)
    one_ended h =
        rw (← ended)
        (⊎_elim
        (λ p. unlike_here (rw (drop_of_length-le a {i = i} (omega arith), drop_one b i (omega arith)) tt))
        (λ p. unlike_here (rw (drop_one a i (omega (arith, h)), drop_of_length-le b {i = i} (omega arith)) tt))
        (below? (length a) (length b)))

-- four numbers at once

-- the groups of n at the front of a list
chunk_at : (n k i : ℕ) (xs : List ℕ) → i < k → get_or (first_chunks n k xs) i [] ≡ take n (drop (n * i) xs)
chunk_at n zero i xs h = absurd (omega arith)
chunk_at n (suc k) zero xs h = rw mul-zero
chunk_at n (suc k) (suc i) xs h =
    let e : n + n * i ≡ n * suc i = omega (arith, mul-suc n i) in
    chunk_at n k i (drop n xs) (omega arith) ∙ rw (drop-drop (n * i) n xs, e)

pub four_more : (a b : List ℕ) (i : ℕ) (s t : List (List ℕ)) → s ≡ first_chunks 4 (length a / 4) a → t ≡ first_chunks 4 (length b / 4) b
    → i < length a / 4 → i < length b / 4 → Agree a b (4 * i) → get_or s i [] ≡ get_or t i [] → Agree a b (4 * (i + 1))
four_more a b i s t p q ha hb A e =
    let here : take 4 (drop (4 * i) a) ≡ take 4 (drop (4 * i) b) =
    sym (chunk_at 4 (length a / 4) i a ha) ∙ rw (← p, ← q) e ∙ chunk_at 4 (length b / 4) i b hb in
    let n : 4 * (i + 1) ≡ 4 * i + 4 = omega arith in
    record { within = (omega arith, omega arith); front = rw (n, take-add (4 * i) 4 a, take-add (4 * i) 4 b, A.front, here) }

-- the numbers at a place, or no number where a list has ended, compare as what is left of the lists from there on

same_number : (x y : ℕ) → ordering_of (nat_cmp x y) ≡ compare x y
same_number x y =
    by_ranked _ _ _ (nat_cmp x y) (ranked x y (nat_cmp x y) refl)
    (λ e p. rw e (sym (compare_below x y p)))
    (λ e p. rw (e, p) (sym (compare_order.reflexive y)))
    (λ e p. rw e (sym (flip_lt compare_order (compare_below y x p))))

abbrev pub compare_lent : Option (Bor ℕ) → Option (Bor ℕ) → answered.Ordering
compare_lent = option_cmp (λ x y. nat_cmp x.now y.now)

module _ (xs ys : List ℕ) (k : ℕ) where
  same_lent : (p q : Option (Bor ℕ)) → IsItemAt xs k p → IsItemAt ys k q → ordering_of (compare_lent p q) ≡ first_order compare (drop k xs) (drop k ys)
  same_lent None None P Q = rw (drop_of_length-le xs {i = k} P.3, drop_of_length-le ys {i = k} Q.3)
  same_lent None (Some y) P Q = rw (drop_of_length-le xs {i = k} P.3, drop_one ys k Q.3.0)
  same_lent (Some x) None P Q = rw (drop_one xs k P.3.0, drop_of_length-le ys {i = k} Q.3)
  same_lent (Some x) (Some y) P Q = rw (drop_one xs k P.3.0, drop_one ys k Q.3.0, ← (P.3.1 0), ← (Q.3.1 0)) (same_number x.now y.now)

-- the promise of `compare`

module _ {xs ys : List ℕ} where
  compares : {r : answered.Ordering} → ordering_of r ≡ order_numbers xs ys → Compares xs ys r
  compares e = record { numbers = e; terms = λ s t p q. e ∙ order_of p q }

  pub compares_same : Differs xs ys None → Compares xs ys Equal
  compares_same d = compares (rw d.numbers (sym (numbers_order.reflexive ys)))

  pub compares_at : (k : ℕ) → Differs xs ys (Some k) → (p q : Option (Bor ℕ)) → IsItemAt xs k p → IsItemAt ys k q
      → {r : answered.Ordering} → r ≡ compare_lent p q → Compares xs ys r
  compares_at k d p q P Q e =
      let (apart, first) = d.numbers in
      let place : DifferAt xs ys k = rw first (differ_first compare_order xs ys apart) in
      compares (ap ordering_of e ∙ same_lent xs ys k p q P Q ∙ sym (differ_order compare_order xs ys k place))

  -- the promise of `equal`, of an answer that says whether the lists are the same

  told : {r : Bool} → Reflects (xs ≡ ys) r → Equals xs ys r
  unfolding same
  told {r} h =
      let e = tests_agree r _ h (tie_reflects numbers_order xs ys) (λ p. p) (λ p. p) in
      record { numbers = e; terms = λ s t p q. e ∙ ap compare_is_eq (order_of p q) }

  pub equals_none : (d : Option ℕ) → Differs xs ys d → {r : Bool} → is_some d ≡ not r → Equals xs ys r
  equals_none None d {r = true} e = told d.numbers
  equals_none (Some k) d {r = false} e = told d.numbers.0
  equals_none None d {r = false} e = absurd (false≢true e)
  equals_none (Some k) d {r = true} e = absurd (false≢true (sym e))

  -- the answer of the library's `==` keeps the same promise
  pub equals : {r : Bool} → r ≡ pointwise nat_eq xs ys → Equals xs ys r
  equals {r = true} h = told (told_text xs ys true h)
  equals {r = false} h = told (told_text xs ys false h)

  -- the answer of `equal` says whether the lists are the same
  pub equal_reflects : {r : Bool} → Equals xs ys r → Reflects (xs ≡ ys) r
  equal_reflects h = rw h.numbers (tie_reflects numbers_order xs ys)
