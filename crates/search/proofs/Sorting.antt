-- Looking for the place of a term among others in term order, as `spot_of` does, and of a result among the results.
use Prim.Native.Nat.{ℕ, suc, ◌+◌, ◌≤◌, ◌<◌}
use native.Mathlib.Omega.{arith}
use native.Mathlib.Numerals.{add-one}
use mathlib.Core.Path.{◌≡◌, refl, sym, ap, subst, ◌∙◌}
use mathlib.Core.Logic.{◌⊎◌, inl, inr}
use mathlib.Core.List.{List, [], ◌∷◌, ◌++◌, map}
use lib.ListN.{length, take, drop, get_or, length-map, get_or-map, take-append-drop, drop_of_length-le}
use lib.Seq.{drop-cons, take-suc, append_snoc}
use Rattle.std.specs.Prelude.{Result as Answer, Ok, Err, Option, None}
use Rattle.std.specs.Result.{result_err}
use Rattle.std.specs.Ordering.{ordering_index}
use Rattle.std.specs.List.Sorted.{IsBinarySearchResult, IsSearchInRange}
use Rattle.std.proofs.lemmas.List.Sorted.{IsNonDecreasingBy-from_default}
use Rattle.terms.specs.Compare.{Ordering, lt, eq, gt, order_numbers}
use Rattle.terms.specs.Term.{Term, zero, order}
use Rattle.terms.specs.Held.{IsRun}
use Rattle.terms.specs.Sort.{lost, insert, repeat, Sorted}
use Rattle.terms.specs.Promises.{ordering_of}
use Rattle.terms.specs.Theory.Order.{cases, flip_lt, flip_gt, below?}
use Rattle.terms.specs.Theory.TermOrder.{term_order}
use Rattle.terms.specs.Theory.Held.{order_of}
use Rattle.terms.specs.Theory.Insert.{insert_lt, insert_eq, insert_gt}
use Rattle.std.specs.declared.cmp.Ordering as answered
use Rattle.std.specs.declared.cmp.Ordering.TheVariants.{Less, Equal, Greater}
use Rattle.search.specs.Line.{Line, by_result}
use Rattle.search.specs.Ordered.{Result, Named, Ordered, none, more, answer, judged, Spelled, Goes, Spotted}
use Rattle.search.specs.Runs.{Spells, term_at, shown}
use Rattle.search.proofs.Rising.{terms_rise, rising_at, goes_past, goes_keyed}
use Rattle.search.proofs.Tracing.{spelled_shown}
pub use Rattle.search.proofs.Rising.{line_at}

module _ {t : Term} {from : ℕ} {res : List ℕ} {n : ℕ} where
  named_length : {ks : List ℕ} {ys : List Line} → Named t from res n ks ys → length ks ≡ length ys
  named_length none = refl
  named_length (more b s N) = ap suc (named_length N)

  named_at : {ks : List ℕ} {ys : List Line} → Named t from res n ks ys → (p : ℕ) → p < length ks → (get_or ks p 0 < n) × Result t from res (get_or ks p 0) (line_at ys p)
  named_at none p h = absurd (omega arith)
  named_at (more b s N) ℕ.zero h = (b, s)
  named_at (more b s N) (suc p) h = named_at N p (omega arith)

  pub ordered_length : {ks : List ℕ} {ys : List Line} → Ordered t from res n ks ys → length ks ≡ length ys
  ordered_length O = named_length O.named

  pub ordered_at : {ks : List ℕ} {ys : List Line} → Ordered t from res n ks ys → (p : ℕ) → p < length ks → (get_or ks p 0 < n) × Result t from res (get_or ks p 0) (line_at ys p)
  ordered_at O = named_at O.named

-- what the code answers

abbrev inserted : Term → List Term → List Term
inserted = insert lost order

order_back : (o : Ordering) → o ≡ ordering_of (answer o)
order_back lt = refl
order_back eq = refl
order_back gt = refl

-- the terms that ks names, in term order, and one with the run xs
module _ {res ks xs : List ℕ} {ts : List Term} (t : Term) (S : Spelled res ks ts) (R : Sorted lost order ts) (hx : IsRun xs t) where
  abbrev verdict : ℕ → answered.Ordering
  verdict p = judged res xs (get_or ks p 0)

  told : (p : ℕ) → p < length ks → order (term_at ts p) t ≡ ordering_of (verdict p)
  told p h =
      let o = order_numbers (shown res (get_or ks p 0)) xs in
      sym (order_of (spelled_shown (S.spells p h)) hx) ∙ order_back o

  -- a term before one that is not behind t is before t
  rises : (i j : ℕ) → i ≤ j → j < length ks → ordering_index (verdict i) ≤ ordering_index (verdict j)
  rises i j h k = go (below? i j)
    where
      earlier : i < j → order (term_at ts i) (term_at ts j) ≡ lt
      earlier q = rising_at (λ u. u) zero ts R i j q (omega (arith, S.count))

      least : (c : answered.Ordering) → ordering_of c ≡ lt → ordering_index c ≤ ordering_index (verdict j)
      least Less e = omega arith
      least Equal e = absurd (let z : ◌≡◌ {A = ℕ} 0 1 = cc in omega arith)
      least Greater e = absurd (let z : ◌≡◌ {A = ℕ} 0 1 = cc in omega arith)

      first : order (term_at ts i) t ≡ lt → ordering_index (verdict i) ≤ ordering_index (verdict j)
      first e = least (verdict i) (sym (told i (omega arith)) ∙ e)

      last : (c d : answered.Ordering) → ordering_of d ≡ gt → ordering_index c ≤ ordering_index d
      last c Less e = absurd (let z : ◌≡◌ {A = ℕ} 0 1 = cc in omega arith)
      last c Equal e = absurd (let z : ◌≡◌ {A = ℕ} 0 1 = cc in omega arith)
      last Less Greater e = omega arith
      last Equal Greater e = omega arith
      last Greater Greater e = omega arith

      go : (i < j) ⊎ (j ≤ i) → ordering_index (verdict i) ≤ ordering_index (verdict j)
      go (inl q) =
          cases (order (term_at ts j) t)
          (λ e. first (term_order.transitive (earlier q) e))
          (λ e. first (ap (order (term_at ts i)) (sym (term_order.tie e)) ∙ earlier q))
          (λ e. last (verdict i) (verdict j) (sym (told j k) ∙ e))
      go (inr q) = let e : i ≡ j = omega arith in rw e (omega arith)

  module _ (p : ℕ) where
    next : p < length ks → drop p ts ≡ term_at ts p ∷ drop (p + 1) ts
    next h = rw add-one (drop-cons ts p zero (omega (arith, S.count)))

    front : p < length ks → take (p + 1) ts ≡ take p ts ++ (term_at ts p ∷ [])
    front h = rw add-one (take-suc ts p zero (omega (arith, S.count)))

    module _ (h : p < length ks) where
      past : (order t (term_at ts p) ≡ lt → ⊥) → inserted t ts ≡ take p ts ++ inserted t (term_at ts p ∷ drop (p + 1) ts)
      past f = goes_past (λ u. u) zero t ts R p (omega (arith, S.count)) f ∙ ap (λ l. take p ts ++ inserted t l) (next h)

      is_here : verdict p ≡ Equal → Goes order None t ts
      unfolding repeat
      is_here v =
          let e : order t (term_at ts p) ≡ eq =
          ap (λ u. order u (term_at ts p)) (sym (term_order.tie (told p h ∙ ap ordering_of v))) ∙ term_order.reflexive (term_at ts p) in
          past (λ f. let z : ◌≡◌ {A = ℕ} 0 1 = cc in omega arith)
          ∙ rw (insert_eq lost order (drop (p + 1) ts) e, ← (next h)) (take-append-drop p ts)

      goes_behind : verdict p ≡ Less → inserted t ts ≡ take (p + 1) ts ++ inserted t (drop (p + 1) ts)
      goes_behind v =
          let e : order t (term_at ts p) ≡ gt = flip_lt term_order (told p h ∙ ap ordering_of v) in
          past (λ f. let z : ◌≡◌ {A = ℕ} 0 1 = cc in omega arith)
          ∙ rw (insert_gt lost order (drop (p + 1) ts) e, front h)
          (sym (append_snoc (take p ts) (term_at ts p) (inserted t (drop (p + 1) ts))))

      before_it : verdict p ≡ Greater → inserted t (drop p ts) ≡ t ∷ drop p ts
      before_it v =
          let e : order t (term_at ts p) ≡ lt = flip_gt term_order (told p h ∙ ap ordering_of v) in
          rw (next h) (insert_lt lost order (drop (p + 1) ts) e)

  -- behind those before the p-th
  seeks : (p : ℕ) → p ≤ length ks → ((k : ℕ) → k < p → verdict k ≡ Less) → inserted t ts ≡ take p ts ++ inserted t (drop p ts)
  seeks ℕ.zero h f = refl
  seeks (suc p) h f = rw add-one at (goes_behind p (omega arith) (f p (omega arith)))

  leaves : (p : ℕ) → (p < length ks → verdict p ≡ Greater) → inserted t (drop p ts) ≡ t ∷ drop p ts
  unfolding insert
  leaves p f = go (below? p (length ks))
    where
      go : (p < length ks) ⊎ (length ks ≤ p) → inserted t (drop p ts) ≡ t ∷ drop p ts
      go (inl q) = before_it p q (f q)
      go (inr q) = let m : length ts ≤ p = omega (arith, S.count) in rw (drop_of_length-le ts m)

-- what a binary search answers
module _ (res ks xs : List ℕ) where
  pub spotted : (r : Answer ℕ ℕ) → IsSearchInRange r (length ks) → IsBinarySearchResult (judged res xs) ks r → Spotted res ks xs (result_err r)
  spotted (Ok p) h v = record { within = tt; goes = λ ts t S R hx. is_here t S R hx p h (v 0) }
  spotted (Err p) h v =
      record {
        within = h;
        goes = λ ts t S R hx.
            let (b, a) = v (IsNonDecreasingBy-from_default (λ k. ordering_index (judged res xs k)) ks 0 (rises t S R hx)) in
            (omega (arith, S.count), seeks t S R hx p h (λ k q. b k 0 (omega arith) q) ∙ ap (λ l. take p ts ++ l) (leaves t S R hx p (λ q. a p 0 (omega arith) q)));
      }

-- and where a line goes among those that ks names
pub line_goes : {t : Term} {from n : ℕ} {res ks xs : List ℕ} {ys : List Line} {r : Option ℕ} → Spotted res ks xs r → Ordered t from res n ks ys → (x : Line) → IsRun xs x.result
    → Goes by_result r x ys
line_goes {res = res} {ks = ks} {ys = ys} {r = r} P O x hx =
    goes_keyed (λ y. y.result) x r ys (P.goes (map (λ y. y.result) ys) x.result S (terms_rise (λ y. y.result) ys O.rising) hx)
  where
    S : Spelled res ks (map (λ y. y.result) ys)
    S =
        record {
          count = ordered_length O ∙ sym (length-map ys (λ y. y.result));
          spells = λ p h. subst (Spells res (get_or ks p 0)) (sym (get_or-map (λ y. y.result) ys p (line_at [] 0))) (ordered_at O p h).1.run;
        }
