-- The lines whose results are not noted: in term order, and taken in turn.
use Prim.Native.Nat.{ℕ, suc, ◌+◌, ◌≤◌, ◌<◌}
use native.Mathlib.Omega.{arith}
use mathlib.Core.Path.{◌≡◌, refl, sym, ap, ◌∙◌}
use mathlib.Core.Logic.{⊎_elim}
use mathlib.Core.Bool.{Bool, true, false}
use mathlib.Core.List.{List, [], ◌∷◌, ◌++◌}
use lib.Dec.{T}
use lib.ListN.{length}
use Rattle.terms.specs.Lists.{◌∈◌, here, there, cons-cases}
use Rattle.terms.specs.Term.{Term, same}
use Rattle.terms.specs.Sort.{lost, insert, insert_all, repeat, before, Below}
use Rattle.terms.specs.Theory.Order.{irreflexive, cases}
use Rattle.terms.specs.Theory.Insert.{insert_lt, insert_eq, insert_gt}
use Rattle.terms.specs.Theory.Sorted.{insert_below, before_lost}
use Rattle.terms.specs.Theory.TermOrder.{term_order, told_apart}
use Rattle.search.specs.Line.{Line, by_result}
use Rattle.search.specs.Search.{Noted, is_noted, entry}
use Rattle.search.specs.Ordered.{inserted, unknown, joined}
use Rattle.search.proofs.Rising.{line_at, Rising, rising_at, rising_inserted}

-- a term noted before, or else as the last one
module _ (t : Term) (n : Noted) where
  last_noted : (ns : List Noted) → same t n.term ≡ true → is_noted t (ns ++ (n ∷ [])) ≡ true
  unfolding is_noted
  last_noted [] e = rw (e, is_noted)
  last_noted (x ∷ ns) e = go (same t x.term) (last_noted ns e)
    where
      go : (b : Bool) → is_noted t (ns ++ (n ∷ [])) ≡ true → elim b [ true ↦ true | false ↦ is_noted t (ns ++ (n ∷ [])) ] ≡ true
      go true h = refl
      go false h = h

  noted_without : (ns : List Noted) → same t n.term ≡ false → is_noted t (ns ++ (n ∷ [])) ≡ is_noted t ns
  unfolding is_noted
  noted_without [] e = rw (e, is_noted)
  noted_without (x ∷ ns) e = ap (λ b. elim (same t x.term) [ true ↦ true | false ↦ b ]) (noted_without ns e)

-- by what a test gives
pub told : {P : Type 0} (b : Bool) → (b ≡ true → P) → (b ≡ false → P) → P
told true f g = f refl
told false f g = g refl

module _ (ns : List Noted) where
  module _ (x : Line) (xs : List Line) where
    pub unknown_in : is_noted x.result ns ≡ false → unknown ns (x ∷ xs) ≡ x ∷ unknown ns xs
    unfolding unknown
    unknown_in e = rw (e, unknown)

    pub unknown_out : is_noted x.result ns ≡ true → unknown ns (x ∷ xs) ≡ unknown ns xs
    unfolding unknown
    unknown_out e = rw (e, unknown)

  pub unknown_append : (xs ys : List Line) → unknown ns (xs ++ ys) ≡ unknown ns xs ++ unknown ns ys
  unfolding unknown
  unknown_append [] ys = refl
  unknown_append (x ∷ xs) ys = go (is_noted x.result ns) (unknown_append xs ys)
    where
      go : (b : Bool) → unknown ns (xs ++ ys) ≡ unknown ns xs ++ unknown ns ys
          → elim b [ true ↦ unknown ns (xs ++ ys) | false ↦ x ∷ unknown ns (xs ++ ys) ] ≡ elim b [ true ↦ unknown ns xs | false ↦ x ∷ unknown ns xs ] ++ unknown ns ys
      go true e = e
      go false e = ap (λ l. x ∷ l) e

  pub unknown_member : (xs : List Line) {z : Line} → z ∈ unknown ns xs → z ∈ xs
  unfolding unknown
  unknown_member [] k = k
  unknown_member (x ∷ xs) {z} k = go (is_noted x.result ns) (unknown_member xs) k
    where
      go : (b : Bool) → (z ∈ unknown ns xs → z ∈ xs) → z ∈ elim b [ true ↦ unknown ns xs | false ↦ x ∷ unknown ns xs ] → z ∈ x ∷ xs
      go true f k = there (f k)
      go false f k = ⊎_elim here (λ n. there (f n)) (cons-cases k)

  -- in term order

  below_rest : (x y : Line) (ys : List Line) → T (before lost (by_result x y)) → Below lost by_result y ys → Below lost by_result x ys
  below_rest x y [] h b = tt
  below_rest x y (z ∷ zs) h b = rw (term_order.transitive (before_lost (by_result x y) h) (before_lost (by_result y z) b)) tt

  below_unknown : (x : Line) (ys : List Line) → Below lost by_result x ys → Rising ys → Below lost by_result x (unknown ns ys)
  unfolding unknown
  below_unknown x [] b s = tt
  below_unknown x (y ∷ ys) b s =
      told (is_noted y.result ns)
      (λ e. rw (unknown_out y ys e) (below_unknown x ys (below_rest x y ys b s.0) s.1))
      (λ e. rw (unknown_in y ys e) b)

  module _ (x : Line) where
    known_inserted : is_noted x.result ns ≡ true → (ys : List Line) → unknown ns (inserted x ys) ≡ unknown ns ys
    unfolding insert repeat
    known_inserted k [] = unknown_out x [] k
    known_inserted k (y ∷ ys) =
        cases (by_result x y)
        (λ e. rw (insert_lt lost by_result {x = x} {y = y} ys e) (unknown_out x (y ∷ ys) k))
        (λ e. rw (insert_eq lost by_result {x = x} {y = y} ys e))
        (λ e. rw (insert_gt lost by_result {x = x} {y = y} ys e)
        (told (is_noted y.result ns)
        (λ b. unknown_out y (inserted x ys) b ∙ known_inserted k ys ∙ sym (unknown_out y ys b))
        (λ b. unknown_in y (inserted x ys) b ∙ ap (λ l. y ∷ l) (known_inserted k ys) ∙ sym (unknown_in y ys b))))

    new_inserted : is_noted x.result ns ≡ false → (ys : List Line) → Rising ys → unknown ns (inserted x ys) ≡ inserted x (unknown ns ys)
    unfolding insert repeat unknown
    new_inserted k [] s = unknown_in x [] k
    new_inserted k (y ∷ ys) s =
        cases (by_result x y)
        (λ e. ap (unknown ns) (insert_lt lost by_result {x = x} {y = y} ys e)
        ∙ unknown_in x (y ∷ ys) k
        ∙ sym (insert_below lost by_result (unknown ns (y ∷ ys)) (below_unknown x (y ∷ ys) (rw e tt) s)))
        (λ e.
        let b : is_noted y.result ns ≡ false = ap (λ u. is_noted u ns) (sym (term_order.tie e)) ∙ k in
        ap (unknown ns) (insert_eq lost by_result {x = x} {y = y} ys e)
        ∙ unknown_in y ys b
        ∙ sym (ap (inserted x) (unknown_in y ys b) ∙ insert_eq lost by_result {x = x} {y = y} (unknown ns ys) e))
        (λ e.
        ap (unknown ns) (insert_gt lost by_result {x = x} {y = y} ys e)
        ∙ told (is_noted y.result ns)
        (λ b. unknown_out y (inserted x ys) b ∙ new_inserted k ys s.1 ∙ ap (inserted x) (sym (unknown_out y ys b)))
        (λ b.
        unknown_in y (inserted x ys) b
        ∙ ap (λ l. y ∷ l) (new_inserted k ys s.1)
        ∙ sym (ap (inserted x) (unknown_in y ys b) ∙ insert_gt lost by_result {x = x} {y = y} (unknown ns ys) e)))

  -- what is noted may be left out before or after the lines are put in order
  pub unknown_joined : (ys xs : List Line) → Rising ys → unknown ns (insert_all lost by_result ys xs) ≡ joined ns (unknown ns ys) xs
  unfolding unknown
  unknown_joined ys [] s = refl
  unknown_joined ys (x ∷ xs) s =
      told (is_noted x.result ns)
      (λ k.
      unknown_joined (inserted x ys) xs (rising_inserted x ys s)
      ∙ ap (λ l. joined ns l xs) (known_inserted x k ys)
      ∙ sym (ap (insert_all lost by_result (unknown ns ys)) (unknown_out x xs k)))
      (λ k.
      unknown_joined (inserted x ys) xs (rising_inserted x ys s)
      ∙ ap (λ l. joined ns l xs) (new_inserted x k ys s)
      ∙ sym (ap (insert_all lost by_result (unknown ns ys)) (unknown_in x xs k)))

-- taken in turn

-- the results from the j-th on are not noted
abbrev pub Fresh : List Noted → List Line → ℕ → Type 0
Fresh ns xs j = (p : ℕ) → j ≤ p → p < length xs → is_noted (line_at xs p).result ns ≡ false

pub fresh_unknown : (ns : List Noted) (xs : List Line) → Fresh ns (unknown ns xs) 0
unfolding unknown
fresh_unknown ns [] = λ p h k. absurd (omega arith)
fresh_unknown ns (x ∷ xs) =
    told (is_noted x.result ns)
    (λ e. rw (unknown_out ns x xs e) (fresh_unknown ns xs))
    (λ e. rw (unknown_in ns x xs e) (first e (fresh_unknown ns xs)))
  where
    first : is_noted x.result ns ≡ false → Fresh ns (unknown ns xs) 0 → Fresh ns (x ∷ unknown ns xs) 0
    first e f ℕ.zero h k = e
    first e f (suc p) h k = f p (omega arith) (omega arith)

-- none of the rest is the j-th, which is noted now
pub fresh_rest : (ns : List Noted) (trail : List Line) (xs : List Line) (j : ℕ) → Rising xs → Fresh ns xs j → Fresh (ns ++ (entry trail (line_at xs j) ∷ [])) xs (j + 1)
fresh_rest ns trail xs j s f p h k =
    noted_without (line_at xs p).result (entry trail (line_at xs j)) ns
    (told_apart (line_at xs p).result (line_at xs j).result (λ e. irreflexive term_order (rising_at (λ x. x.result) (line_at [] 0) xs s j p (omega arith) k) (sym e)))
    ∙ f p (omega arith) k

-- what is noted stays so, and one noted term more makes noted what it is itself
pub still_noted : (t : Term) (n : Noted) (ns : List Noted) → is_noted t ns ≡ true → is_noted t (ns ++ (n ∷ [])) ≡ true
still_noted t n ns e = told (same t n.term) (λ q. last_noted t n ns q) (λ q. noted_without t n ns q ∙ e)

pub now_noted : (t : Term) (n : Noted) (ns : List Noted) → is_noted t ns ≡ false → is_noted t (ns ++ (n ∷ [])) ≡ same t n.term
now_noted t n ns e = told (same t n.term) (λ q. last_noted t n ns q ∙ sym q) (λ q. noted_without t n ns q ∙ e ∙ sym q)
