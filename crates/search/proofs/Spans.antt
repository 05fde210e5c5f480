-- Parts of a run as bindings: laws on `span_of` and `with_span`.
use Prim.Native.Nat.{ℕ, suc, ◌+◌, ◌≤◌, ◌<◌}
use native.Mathlib.Omega.{arith}
use mathlib.Core.Path.{◌≡◌, refl, sym}
use mathlib.Core.Bool.{Bool, true, false, cond}
use mathlib.Core.Option.{none, some}
use mathlib.Core.List.{List}
use lib.Dec.{eqb}
use borrow.Author.Tests.{eqb-true, eq-eqb, ne_eqb}
use Rattle.terms.specs.Term.{Term, size}
use Rattle.terms.specs.Held.{Holds}
use Rattle.search.specs.Match.{Bindings, bind, unbound}
use Rattle.search.specs.Span.{no_spans, span_of, with_span, Meant, Means, Within}
use Rattle.search.specs.declared.search.Span.{Span}
use Rattle.search.specs.declared.search.Spans.{Spans}

-- one of two values by a test for equal numbers

pub first_if : {A : Type 0} (a b : ℕ) (x y : A) → a ≡ b → x ≡ cond (eqb a b) x y
first_if a b x y e = rw (eq-eqb a b e)

pub second_if : {A : Type 0} (a b : ℕ) (w x y : A) → (a ≡ b → ⊥) → w ≡ y → w ≡ cond (eqb a b) x y
second_if a b w x y e p = rw (ne_eqb a b e) p

data Three : ℕ → Type 0 where
  is_0 : Three 0
  is_1 : Three 1
  is_2 : Three 2

three : (n : ℕ) → n < 3 → Three n
three ℕ.zero h = is_0
three (suc ℕ.zero) h = is_1
three (suc (suc ℕ.zero)) h = is_2
three (suc (suc (suc n))) h = absurd (omega arith)

span_with : (z : Spans) (v : Span) {n m : ℕ} → Three n → Three m → span_of (with_span z n v) m ≡ cond (eqb m n) v (span_of z m)
unfolding span_of with_span
span_with z v is_0 is_0 = refl
span_with z v is_0 is_1 = refl
span_with z v is_0 is_2 = refl
span_with z v is_1 is_0 = refl
span_with z v is_1 is_1 = refl
span_with z v is_1 is_2 = refl
span_with z v is_2 is_0 = refl
span_with z v is_2 is_1 = refl
span_with z v is_2 is_2 = refl

-- a letter bound to a held term
pub means_bind : {xs : List ℕ} {z : Spans} {σ : Bindings} (n : ℕ) (v : Span) (t : Term) → Means xs z σ → n < 3 → Holds xs v.at t → v.len ≡ size t
    → Means xs (with_span z n v) (bind n t σ)
unfolding bind
means_bind {xs} {z} {σ} n v t M p h e = record { letters = λ m q. rw (span_with z v (three n p) (three m q)) (chosen m q (eqb m n)) }
  where
    chosen : (m : ℕ) → m < 3 → (b : Bool) → Meant xs (cond b v (span_of z m)) (cond b (some t) (σ m))
    chosen m q true = (h, e)
    chosen m q false = M.letters m q

-- a letter bound once more, to the same term at another place
pub means_again : {xs : List ℕ} {z : Spans} {σ : Bindings} (n : ℕ) (v : Span) (t : Term) → Means xs z σ → n < 3 → Holds xs v.at t → v.len ≡ size t → σ n ≡ some t
    → Means xs (with_span z n v) σ
unfolding bind
means_again {xs} {z} {σ} n v t M p h e k = record { letters = λ m q. rw (again m (eqb m n) refl) at ((means_bind n v t M p h e).letters m q) }
  where
    again : (m : ℕ) (b : Bool) → eqb m n ≡ b → bind n t σ m ≡ σ m
    again m true g = rw (g, eqb-true m n g) (sym k)
    again m false g = rw g

-- at the start no letter is known

pub means_unbound : {xs : List ℕ} {z : Spans} → z ≡ no_spans → Means xs z unbound
unfolding unbound span_of
means_unbound {xs} e = record { letters = λ n p. rw e (none_meant (three n p)) }
  where
    none_meant : {n : ℕ} → Three n → Meant xs (span_of no_spans n) none
    none_meant is_0 = refl
    none_meant is_1 = refl
    none_meant is_2 = refl

within_span : (k : ℕ) (z : Spans) (n : ℕ) → Within k z → (span_of z n).at + (span_of z n).len ≤ k
unfolding span_of
within_span k z n W = go (eqb n 0) (eqb n 1)
  where
    go : (b b' : Bool) → (cond b z.a (cond b' z.b z.c)).at + (cond b z.a (cond b' z.b z.c)).len ≤ k
    go true b' = W.a
    go false true = W.b
    go false false = W.c

pub old_within : (n : ℕ) {k : ℕ} {z : Spans} {v : Span} → v ≡ span_of z n → Within k z → v.at + v.len ≤ k
old_within n {k} {z} e W = rw e (within_span k z n W)

pub within_with : (k : ℕ) (z : Spans) (n : ℕ) (v : Span) → Within k z → v.at + v.len ≤ k → Within k (with_span z n v)
unfolding with_span
within_with k z n v W h = go (eqb n 0) (eqb n 1)
  where
    go : (b b' : Bool) → Within k (cond b (record { a = v; b = z.b; c = z.c }) (cond b' (record { a = z.a; b = v; c = z.c }) (record { a = z.a; b = z.b; c = v })))
    go true b' = record { a = h; b = W.b; c = W.c }
    go false true = record { a = W.a; b = h; c = W.c }
    go false false = record { a = W.a; b = W.b; c = h }
