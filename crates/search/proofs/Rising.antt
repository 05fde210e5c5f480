-- Items in the order of their terms, as lines are by result: one put in leaves them so, and where it goes is told by any of them.
use Prim.Native.Nat.{ℕ, suc, ◌<◌, ◌≤◌}
use native.Mathlib.Omega.{arith}
use mathlib.Core.Path.{◌≡◌, refl, sym, ap, ◌∙◌}
use mathlib.Core.List.{List, [], ◌∷◌, ◌++◌, map}
use lib.ListN.{length, take, drop, get_or, length-append, length-map, take-append-drop}
use Rattle.std.specs.Prelude.{Option, Some, None}
use Rattle.terms.specs.Compare.{Ordering, lt, gt}
use Rattle.terms.specs.Term.{Term, zero, order}
use Rattle.terms.specs.Sort.{lost, insert, repeat, Sorted}
use Rattle.terms.specs.Theory.Order.{cases, flip_gt, irreflexive}
use Rattle.terms.specs.Theory.Insert.{insert_lt, insert_eq, insert_gt}
use Rattle.terms.specs.Theory.Sorted.{below_insert, before_lost}
use Rattle.terms.specs.Theory.TermOrder.{term_order}
use Rattle.search.specs.Law.{add_assoc}
use Rattle.search.specs.Line.{Line, forward, by_result}
use Rattle.search.specs.Ordered.{inserted, Goes}

-- the line at a place
abbrev pub line_at : List Line → ℕ → Line
line_at ys p = get_or ys p (record { law = add_assoc; direction = forward; place = []; result = zero })

abbrev pub Rising : List Line → Type 0
Rising = Sorted lost by_result

pub rising_inserted : (x : Line) (ys : List Line) → Rising ys → Rising (inserted x ys)
unfolding insert repeat
rising_inserted x [] s = (tt, tt)
rising_inserted x (y ∷ ys) s =
    cases (by_result x y)
    (λ e. rw (insert_lt lost by_result {x = x} {y = y} ys e) (rw e tt, s))
    (λ e. rw (insert_eq lost by_result {x = x} {y = y} ys e) s)
    (λ e. rw (insert_gt lost by_result {x = x} {y = y} ys e)
    (below_insert lost by_result y x ys (rw (flip_gt term_order e) tt) s.0, rising_inserted x ys s.1))

module _ {A : Type 0} (term : A → Term) where
  abbrev by_term : A → A → Ordering
  by_term x y = order (term x) (term y)

  -- their terms are in order
  pub terms_rise : (ys : List A) → Sorted lost by_term ys → Sorted lost order (map term ys)
  terms_rise [] s = tt
  terms_rise (y ∷ []) s = s
  terms_rise (y ∷ z ∷ zs) s = (s.0, terms_rise (z ∷ zs) s.1)

  pub rise_by_terms : (ys : List A) → Sorted lost order (map term ys) → Sorted lost by_term ys
  rise_by_terms [] s = tt
  rise_by_terms (y ∷ []) s = s
  rise_by_terms (y ∷ z ∷ zs) s = (s.0, rise_by_terms (z ∷ zs) s.1)

  module _ (d : A) where
    -- the first of them is before each other
    first_least : (y : A) (ys : List A) → Sorted lost by_term (y ∷ ys) → (p : ℕ) → p < length ys → by_term y (get_or ys p d) ≡ lt
    first_least y [] s p h = absurd (omega arith)
    first_least y (z ∷ zs) s ℕ.zero h = before_lost (by_term y z) s.0
    first_least y (z ∷ zs) s (suc p) h = term_order.transitive (before_lost (by_term y z) s.0) (first_least z zs s.1 p (omega arith))

    -- each is before those behind it
    pub rising_at : (ys : List A) → Sorted lost by_term ys → (j p : ℕ) → j < p → p < length ys → by_term (get_or ys j d) (get_or ys p d) ≡ lt
    rising_at [] s j p h k = absurd (omega arith)
    rising_at (y ∷ ys) s j ℕ.zero h k = absurd (omega arith)
    rising_at (y ∷ ys) s ℕ.zero (suc p) h k = first_least y ys s p (omega arith)
    rising_at (y ∷ ys) s (suc j) (suc p) h k = rising_at ys s.1 j p (omega arith) (omega arith)

    -- one that is not before the p-th goes in behind those before the p-th
    pub goes_past : (x : A) (ys : List A) → Sorted lost by_term ys → (p : ℕ) → p < length ys → (by_term x (get_or ys p d) ≡ lt → ⊥)
        → insert lost by_term x ys ≡ take p ys ++ insert lost by_term x (drop p ys)
    goes_past x ys s ℕ.zero h f = refl
    goes_past x [] s (suc p) h f = absurd (omega arith)
    goes_past x (y ∷ ys) s (suc p) h f =
        cases (by_term x y)
        (λ e. absurd (f (term_order.transitive e l)))
        (λ e. absurd (f (ap (λ u. order u (term (get_or ys p d))) (term_order.tie e) ∙ l)))
        (λ e. insert_gt lost by_term ys e ∙ ap (λ zs. y ∷ zs) (goes_past x ys s.1 p (omega arith) f))
      where
        l : by_term y (get_or ys p d) ≡ lt
        l = first_least y ys s p (omega arith)

  -- an item goes where its term goes among theirs

  put_longer : (p : ℕ) (t : Term) (ts : List Term) → length (take p ts ++ (t ∷ drop p ts)) ≡ suc (length ts)
  put_longer p t ts = omega (arith, length-append (take p ts) (t ∷ drop p ts), length-append (take p ts) (drop p ts), ap length (take-append-drop p ts))

  module _ (x : A) where
    abbrev Placed : ℕ → List A → Type 0
    Placed p ys = insert lost by_term x ys ≡ take p ys ++ (x ∷ drop p ys)

    abbrev PutAt : ℕ → List A → List Term → Type 0
    PutAt p ys l = l ≡ take p (map term ys) ++ (term x ∷ drop p (map term ys))

    goes_at : (ys : List A) (p : ℕ) → p ≤ length ys → PutAt p ys (insert lost order (term x) (map term ys)) → Placed p ys
    unfolding insert repeat
    goes_at [] ℕ.zero h e = refl
    goes_at [] (suc p) h e = absurd (omega arith)
    goes_at (y ∷ ys) p h e =
        cases (by_term x y)
        (λ c. before p c (sym (insert_lt lost order {x = term x} {y = term y} (map term ys) c) ∙ e))
        (λ c. absurd (same (sym (insert_eq lost order {x = term x} {y = term y} (map term ys) c) ∙ e)))
        (λ c. insert_gt lost by_term ys c ∙ behind p h c (sym (insert_gt lost order {x = term x} {y = term y} (map term ys) c) ∙ e) (goes_at ys))
      where
        same : PutAt p (y ∷ ys) (map term (y ∷ ys)) → ⊥
        same e = omega (arith, ap length e, put_longer p (term x) (map term (y ∷ ys)))

        before : (q : ℕ) → by_term x y ≡ lt → PutAt q (y ∷ ys) (term x ∷ map term (y ∷ ys)) → Placed q (y ∷ ys)
        before ℕ.zero c e = insert_lt lost by_term ys c
        before (suc q) c e = absurd (irreflexive term_order c (ap (λ l. get_or l 0 zero) e))

        behind : (q : ℕ) → q ≤ suc (length ys) → by_term x y ≡ gt → PutAt q (y ∷ ys) (term y ∷ insert lost order (term x) (map term ys))
            → ((p : ℕ) → p ≤ length ys → PutAt p ys (insert lost order (term x) (map term ys)) → Placed p ys)
            → y ∷ insert lost by_term x ys ≡ take q (y ∷ ys) ++ (x ∷ drop q (y ∷ ys))
        behind ℕ.zero h c e on = absurd (irreflexive term_order (flip_gt term_order c) (ap (λ l. get_or l 0 zero) e))
        behind (suc q) h c e on = ap (λ l. y ∷ l) (on q (omega arith) (ap (drop 1) e))

    stays : (ys : List A) → insert lost order (term x) (map term ys) ≡ map term ys → insert lost by_term x ys ≡ ys
    unfolding insert repeat
    stays [] e = absurd (omega (arith, ap length e))
    stays (y ∷ ys) e =
        cases (by_term x y)
        (λ c. absurd (omega (arith, ap length (sym (insert_lt lost order {x = term x} {y = term y} (map term ys) c) ∙ e))))
        (λ c. insert_eq lost by_term ys c)
        (λ c. insert_gt lost by_term ys c ∙ ap (λ l. y ∷ l) (stays ys (ap (drop 1) (sym (insert_gt lost order {x = term x} {y = term y} (map term ys) c) ∙ e))))

    pub goes_keyed : (r : Option ℕ) (ys : List A) → Goes order r (term x) (map term ys) → Goes by_term r x ys
    goes_keyed None ys e = stays ys e
    goes_keyed (Some p) ys (h, e) = let k : p ≤ length ys = omega (arith, length-map ys term) in (k, goes_at ys p k e)
