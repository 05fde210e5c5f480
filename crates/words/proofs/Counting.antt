-- A term in a run counted: an atom, and a sum or product whose parts were.
use Rattle.std.proofs.Common.{◌≡◌, ℕ, Bool, true, false, eqb, ne_eqb, [], ◌∷◌, zero, suc, ◌+◌, ◌*◌, ◌<◌, ◌≤◌, min, List, length, get_or, refl, ap, sym, ◌∙◌, le_refl, mul-le-mul, length-append, arith, ⊎_elim}
use Rattle.std.specs.Prelude.{nat_eq}
use Rattle.std.proofs.Math.Dec.{compare_is_eq}
use Rattle.std.proofs.Math.Nat.{mul-zero, mul_comm}
use Rattle.terms.specs.Term.{Term, size}
use Rattle.terms.specs.Run.{ZERO, ONE, ADD}
use Rattle.terms.specs.Theory.Order.{below?, tie_reflects}
use Rattle.terms.specs.Held.{Holds}
use Rattle.terms.proofs.Held.{size_pos, holds_whole, holds_within}
use Rattle.terms.specs.Theory.Reflects.{eqb_reflects, tests_agree}
use Rattle.words.specs.Words.{words, order_lists}
use Rattle.words.specs.Multiply.{atom_words}
use Rattle.words.specs.Counts.{count}
use Rattle.words.specs.Counting.{HIGHEST, counted, CountsAt, CountsWords, AsMany}
use Rattle.words.specs.declared.count.Counted.{Counted}
use Rattle.words.specs.WordLists.{SameWords}
use Rattle.words.specs.Theory.Order.{list_order}
use Rattle.words.specs.Theory.Bound.{length_products}
use Rattle.words.specs.Theory.Same.{count_expand, same_count, counted_words}
use Rattle.words.proofs.Expanded.{atom_held, Node, node_held}

-- a product stopped at m is that of its factors stopped at m: one that reaches m still does times 1 or more
module _ (m : ℕ) where
  reaches : (a b : ℕ) → m ≤ a → 0 < b → m ≤ a * b
  reaches a b h k = omega (arith, mul-le-mul h k)

  stopped_large : (a b : ℕ) → 0 < m → m ≤ a → min (min a m * min b m) m ≡ min (a * b) m
  stopped_large a zero p h =
      let z : min zero m ≡ zero = omega arith in
      let e : min a m * min zero m ≡ zero = rw z (mul-zero (min a m)) in
      omega (arith, e, mul-zero a)
  stopped_large a (suc b) p h = omega (arith, reaches a (suc b) h (omega arith), reaches (min a m) (min (suc b) m) (omega arith) (omega arith))

  stopped_left : (a b : ℕ) → a < m → min b m ≡ b → min (min a m * min b m) m ≡ min (a * b) m
  stopped_left a b h e = let d : min a m ≡ a = omega arith in rw (d, e) refl

  pub stopped : (a b : ℕ) → 0 < m → min (min a m * min b m) m ≡ min (a * b) m
  stopped a b p =
      ⊎_elim
      (λ h. ⊎_elim (λ k. stopped_left a b h (omega arith)) (λ k. rw (mul_comm (min a m) (min b m), mul_comm a b) (stopped_large b a p k)) (below? b m))
      (λ h. stopped_large a b p h)
      (below? a m)

-- an atom

pub no_words : (x : ℕ) → x ≡ ZERO → (0 ≡ length (atom_words x)) × (0 ≤ 1)
unfolding atom_words
no_words x e = rw e (refl, omega arith)

pub one_word : (x : ℕ) → (x ≡ ZERO → ⊥) → (1 ≡ length (atom_words x)) × (1 ≤ 1)
unfolding atom_words
one_word x h = (rw (ne_eqb x ZERO h, atom_words) (one (eqb x ONE)), omega arith)
  where
    one : (b : Bool) → 1 ≡ length {A = List ℕ} (elim b [ true ↦ [] ∷ [] | false ↦ (x ∷ []) ∷ [] ])
    one true = refl
    one false = refl

module _ {xs : List ℕ} {at : ℕ} where
  pub counts_past : length xs ≤ at → CountsAt xs at (record { end = at; count = 0 })
  counts_past h = record { forward = le_refl at; exact = λ t p. absurd (omega (arith, holds_within p, size_pos t)) }

  pub counts_atom : {n : ℕ} → get_or xs at 0 < ADD → (n ≡ length (atom_words (get_or xs at 0))) × (n ≤ 1) → CountsAt xs at (record { end = at + 1; count = n })
  counts_atom {n} q (e, few) =
      record {
        forward = omega arith;
        exact = λ t h.
            let a = atom_held t h q in
            let c : n ≡ count t = e ∙ ap length a.1 ∙ count_expand t in
            (omega (arith, a.0), omega arith);
      }

  -- both parts counted, one after the other
  module _ {l r : Counted} (q : ADD ≤ get_or xs at 0) (L : CountsAt xs (at + 1) l) (R : CountsAt xs l.end r) where
    module _ (t : Term) (h : Holds xs at t) where
      abbrev node : Node xs at t
      node = node_held t h q

      left_counted : (l.end ≡ at + 1 + size node.left) × (l.count ≡ counted node.left)
      left_counted = L.exact node.left node.left_held

      right_counted : (r.end ≡ l.end + size node.right) × (r.count ≡ counted node.right)
      right_counted = R.exact node.right (rw left_counted.0 node.right_held)

      whole : r.end ≡ at + size t
      whole = omega (arith, left_counted.0, right_counted.0, node.sized)

    pub counts_sum : {k : ℕ} → get_or xs at 0 ≡ ADD → k ≡ min (l.count + r.count) HIGHEST → CountsAt xs at (record { end = r.end; count = k })
    counts_sum e d =
        record {
          forward = omega (arith, L.forward, R.forward);
          exact = λ t h.
              let n = node t h in
              let c : count t ≡ count n.left + count n.right =
              sym (count_expand t) ∙ ap length (n.sum e) ∙ simp (length-append, count_expand) in
              (whole t h, omega (arith, d, c, (left_counted t h).1, (right_counted t h).1));
        }

    pub counts_product : {k : ℕ} → (get_or xs at 0 ≡ ADD → ⊥) → k ≡ min (l.count * r.count) HIGHEST → CountsAt xs at (record { end = r.end; count = k })
    counts_product z d =
        record {
          forward = omega (arith, L.forward, R.forward);
          exact = λ t h.
              let n = node t h in
              let c : count t ≡ count n.left * count n.right =
              sym (count_expand t) ∙ ap length (n.product z) ∙ simp (length_products, count_expand) in
              (whole t h, d ∙ rw ((left_counted t h).1, (right_counted t h).1, c) (stopped HIGHEST (count n.left) (count n.right) (omega arith)));
        }

pub counts_words : {xs : List ℕ} {r : Counted} → CountsAt xs 0 r → CountsWords xs r.count
counts_words h = λ t p. (h.exact t (holds_whole p)).1

-- terms whose counts differ have not the same words
pub counts_apart : {xs ys : List ℕ} {m n : ℕ} → CountsWords xs m → CountsWords ys n → (m ≡ n → ⊥) → SameWords xs ys (nat_eq m n)
counts_apart {m = m} {n = n} c d h =
    λ s t p q small-s small-t.
    tests_agree (nat_eq m n) (compare_is_eq (order_lists (words s) (words t))) (eqb_reflects m n) (tie_reflects list_order (words s) (words t))
    (λ e. absurd (h e))
    (λ e. c s p ∙ ap (λ k. min k HIGHEST) (same_count s t e) ∙ sym (d t q))

-- terms whose counts agree have as many words
pub counts_agree : {xs ys : List ℕ} {m n : ℕ} → CountsWords xs m → CountsWords ys n → m ≡ n → AsMany xs ys
counts_agree c d e = λ s t p q small-s small-t. sym (counted_words s small-s) ∙ sym (c s p) ∙ e ∙ d t q ∙ counted_words t small-t
