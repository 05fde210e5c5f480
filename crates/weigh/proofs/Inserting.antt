-- A slot's number put in its place among those of terms in term order, of which the first are kept.
use Prim.Native.Nat.{ℕ, suc, ◌+◌, ◌-◌, ◌≤◌, ◌<◌, min}
use native.Mathlib.Omega.{arith}
use native.Mathlib.Numerals.{add-one}
use mathlib.Core.Path.{◌≡◌, refl, sym, ap, subst, ◌∙◌}
use mathlib.Core.Logic.{⊎_elim}
use mathlib.Core.List.{List, [], ◌∷◌, ◌++◌}
use lib.ListN.{length, take, drop, get_or, length-append, take-append-drop, drop_of_length-le}
use lib.Seq.{append_snoc, drop-cons, get_or-take, take-suc, take_all, take_at, length-take-le}
use mathlib.Core.Bool.{true, false≢true}
use Rattle.std.specs.Prelude.{Option, Some, None}
use Rattle.std.specs.Ordering.{is_le}
use Rattle.std.specs.declared.cmp.Ordering as answered
use Rattle.std.specs.declared.cmp.Ordering.TheVariants.{Less, Equal, Greater}
use Rattle.terms.specs.Compare.{lt, gt}
use Rattle.terms.specs.Term.{Term, order}
use Rattle.terms.specs.Numbers.{put_in}
use Rattle.terms.specs.Sort.{lost, insert, repeat, Sorted}
use Rattle.terms.specs.Promises.{Compares, ordering_of}
use Rattle.terms.specs.Theory.Order.{cases, flip_lt, below?}
use Rattle.terms.specs.Theory.TermOrder.{term_order}
use Rattle.terms.specs.Theory.Insert.{insert_eq, insert_gt}
use Rattle.terms.proofs.Inserted.{put_in_room}
use Rattle.search.specs.Runs.{Spells, Shows}
use Rattle.search.specs.Ordered.{Spelled, Goes, Spotted}
use Rattle.search.proofs.Rising.{terms_rise, goes_past, goes_keyed}
use Rattle.weigh.specs.Weigh.{Weighed, terms, start}
use Rattle.weigh.specs.Layer.{by_term}
use Rattle.weigh.specs.Slots.{weighed_at, WeighSlots}
use Rattle.weigh.specs.Gathered.{SlotsOf, none, more, Inserts}
use Rattle.weigh.proofs.Noting.{counted, weighed_term}
use Rattle.weigh.proofs.Naming.{weighed_run}

abbrev inserted : Weighed → List Weighed → List Weighed
inserted = insert lost by_term

module _ {es : List Weighed} where
  pub names_length : {ks : List ℕ} {ys : List Weighed} → SlotsOf es ks ys → length ks ≡ length ys
  names_length none = refl
  names_length (more b e N) = ap suc (names_length N)

  names_take : (n : ℕ) {ks : List ℕ} {ys : List Weighed} → SlotsOf es ks ys → SlotsOf es (take n ks) (take n ys)
  names_take ℕ.zero N = none
  names_take (suc n) none = none
  names_take (suc n) (more b e N) = more b e (names_take n N)

  names_put : (p k : ℕ) {ks : List ℕ} {ys : List Weighed} → k < length es → SlotsOf es ks ys
      → SlotsOf es (take p ks ++ (k ∷ drop p ks)) (take p ys ++ (weighed_at es k ∷ drop p ys))
  names_put ℕ.zero k h N = more h refl N
  names_put (suc p) k h none = more h refl none
  names_put (suc p) k h (more b e N) = more b e (names_put p k h N)

  names_spelled : {ws : List ℕ} → WeighSlots ws es → {ks : List ℕ} {ys : List Weighed} → SlotsOf es ks ys → Spelled ws ks (terms ys)
  names_spelled {ws} W {ks} {ys} N = record { count = names_length N ∙ sym (counted ys); spells = at N }
    where
      at : {ks : List ℕ} {ys : List Weighed} → SlotsOf es ks ys → (p : ℕ) → p < length ks → Spells ws (get_or ks p 0) (get_or (terms ys) p Term.zero)
      at none p h = absurd (omega arith)
      at (more {k} b e N) ℕ.zero h = subst (λ x. Spells ws k x.term) e (weighed_run W k b)
      at (more b e N) (suc p) h = at N p (omega arith)

-- a front of numbers, with one more put in
module _ (k most count : ℕ) (order : List ℕ) (few : count ≤ most) (room : most ≤ length order) where
  abbrev front : List ℕ
  front = take count order

  front_length : length front ≡ count
  front_length = length-take-le count order (omega arith)

  -- what is moved on is the front, and the number behind it where there is room
  moved : (p e : ℕ) → e ≡ min (count + 1) most → p < e → put_in p k (take e order) ≡ take most (take p front ++ (k ∷ drop p front))
  unfolding put_in
  moved p e d h = ⊎_elim (λ q. longer (omega (arith, q)) q) (λ q. full (omega (arith, q)) (omega (arith, q))) (below? count most)
    where
      put : List ℕ
      put = take p front ++ (k ∷ drop p front)

      put_length : length put ≡ count + 1
      put_length = omega (arith, length-append (take p front) (k ∷ drop p front), length-append (take p front) (drop p front), ap length (take-append-drop p front), front_length)

      longer : e ≡ count + 1 → count < most → put_in p k (take e order) ≡ take most put
      longer f q =
          let one_more : take e order ≡ front ++ (get_or order count 0 ∷ []) = rw (f, add-one) (take-suc order count 0 (omega arith)) in
          ap (put_in p k) one_more ∙ put_in_room k front (get_or order count 0) p (omega (arith, front_length)) ∙ sym (take_all most put (omega (arith, put_length)))

      full : e ≡ count → most ≡ count → put_in p k (take e order) ≡ take most put
      full f q = rw (f, q, front_length)

  pub put_front : (p e : ℕ) → e ≡ min (count + 1) most → p < e → (s : List ℕ) → s ≡ put_in p k (take e order) → length s ≡ length (take e order)
      → take e (s ++ drop e order) ≡ take most (take p front ++ (k ∷ drop p front))
  put_front p e d h s f n = take_at s (drop e order) e (n ∙ length-take-le e order (omega arith)) ∙ f ∙ moved p e d h

-- what is not before the last of some goes behind them, or is there
module _ (x : Weighed) (ys : List Weighed) (rising : Sorted lost by_term ys) (n : ℕ) (few : length ys ≡ n + 1) where
  abbrev last : Weighed
  last = get_or ys n (start Term.zero)

  ends : ys ≡ take n ys ++ (last ∷ [])
  ends = sym (take_all (n + 1) ys (omega (arith, few))) ∙ rw add-one (take-suc ys n (start Term.zero) (omega (arith, few)))

  end : drop n ys ≡ last ∷ []
  end = drop-cons ys n (start Term.zero) (omega (arith, few)) ∙ ap (λ l. last ∷ l) (drop_of_length-le ys {i = suc n} (omega (arith, few)))

  goes_behind : (by_term x last ≡ lt → ⊥) → (rest : List Weighed) × (inserted x ys ≡ ys ++ rest)
  unfolding repeat
  goes_behind f =
      cases (by_term x last)
      (λ e. absurd (f e))
      (λ e. ([], by_last [] (insert_eq lost by_term [] e)))
      (λ e. (inserted x [], by_last (inserted x []) (insert_gt lost by_term [] e)))
    where
      by_last : (rest : List Weighed) → inserted x (last ∷ []) ≡ last ∷ rest → inserted x ys ≡ ys ++ rest
      by_last rest e =
          goes_past (λ y. y.term) (start Term.zero) x ys rising n (omega (arith, few)) f
          ∙ ap (λ l. take n ys ++ inserted x l) end
          ∙ ap (λ l. take n ys ++ l) e
          ∙ sym (append_snoc (take n ys) last rest)
          ∙ ap (λ l. l ++ rest) (sym ends)

-- the answer of a comparison that puts one term at most in the place of the other
not_before : (s t : Term) (o : answered.Ordering) → ordering_of o ≡ order s t → is_le o ≡ true → order t s ≡ lt → ⊥
not_before s t o e q f = go o (e ∙ flip_lt term_order f) q
  where
    go : (o : answered.Ordering) → ordering_of o ≡ gt → is_le o ≡ true → ⊥
    go Less e q = let z : ◌≡◌ {A = ℕ} 0 1 = cc in omega arith
    go Equal e q = let z : ◌≡◌ {A = ℕ} 0 1 = cc in omega arith
    go Greater e q = false≢true q

-- by the answers of the calls
module _ (ws : List ℕ) (k most : ℕ) (order : List ℕ) (count : ℕ) (few : count ≤ most) (room : most ≤ length order) (xs : List ℕ) (shows : Shows ws k xs) where
  count_named : {es ys : List Weighed} → SlotsOf es (take count order) ys → length ys ≡ count
  count_named N = sym (names_length N) ∙ length-take-le count order (omega arith)

  -- a term that goes behind as many as are kept
  inserts_stay : count ≡ most → ((es ys : List Weighed) → WeighSlots ws es → k < length es → Sorted lost by_term ys → SlotsOf es (take count order) ys
      → (rest : List Weighed) × (inserted (weighed_at es k) ys ≡ ys ++ rest)) → Inserts ws k most order count order count
  inserts_stay q f =
      record {
        few = few;
        exact = λ es ys W h s N. let (rest, e) = f es ys W h s N in rw (e, take_at ys rest most (count_named N ∙ q)) N;
      }

  -- one that is not before the last of them
  pub inserts_last : 0 < count → count ≡ most → (zs : List ℕ) → Shows ws (get_or order (count - 1) 0) zs → (o : answered.Ordering) → Compares zs xs o → is_le o ≡ true
      → Inserts ws k most order count order count
  inserts_last p q zs shown o C l =
      inserts_stay q
      (λ es ys W h s N.
      let n : length ys ≡ count - 1 + 1 = omega (arith, count_named N, p) in
      let x = weighed_at es k in
      goes_behind x ys s (count - 1) n
      (not_before (last x ys s (count - 1) n).term x.term o (C.terms _ _ (shown.exact _ (last_run W N)) (shows.exact x.term (weighed_run W k h))) l))
    where
      last_run : {es ys : List Weighed} → WeighSlots ws es → SlotsOf es (take count order) ys
          → Spells ws (get_or order (count - 1) 0) (get_or ys (count - 1) (start Term.zero)).term
      last_run {es} {ys} W N =
          let s = (names_spelled W N).spells (count - 1) (omega (arith, p, length-take-le count order (omega arith))) in
          rw (get_or-take count order (count - 1) 0 (omega arith), weighed_term ys (count - 1)) at s

  module _ (r : Option ℕ) (S : Spotted ws (take count order) xs r) where
    goes : (es ys : List Weighed) → WeighSlots ws es → k < length es → Sorted lost by_term ys → SlotsOf es (take count order) ys → Goes by_term r (weighed_at es k) ys
    goes es ys W h s N =
        goes_keyed (λ y. y.term) (weighed_at es k) r ys
        (S.goes (terms ys) (weighed_at es k).term (names_spelled W N) (terms_rise (λ y. y.term) ys s) (shows.exact (weighed_at es k).term (weighed_run W k h)))

    pub inserts_none : r ≡ None → Inserts ws k most order count order count
    inserts_none e =
        record {
          few = few;
          exact = λ es ys W h s N.
              let n : length ys ≤ most = omega (arith, count_named N) in
              rw (rw e at (goes es ys W h s N), take_all most ys n) N;
        }

    module _ (p : ℕ) (e : r ≡ Some p) (m : ℕ) (d : m ≡ min (count + 1) most) where
      pub inserts_behind : m ≤ p → Inserts ws k most order count order m
      inserts_behind h =
          let b : p ≤ length (take count order) = (rw e at S).within in
          let q : count ≡ most = omega (arith, d, b, length-take-le count order (omega arith)) in
          let c : m ≡ count = omega (arith, d) in
          rw c
          (inserts_stay q
          (λ es ys W t s N.
          let n = count_named N in
          (weighed_at es k ∷ [], (rw e at (goes es ys W t s N)).1 ∙ rw (take_all p ys (omega (arith, n)), drop_of_length-le ys {i = p} (omega (arith, n))))))

      pub inserts_one : p < m → (s : List ℕ) → s ≡ put_in p k (take m order) → length s ≡ length (take m order) → Inserts ws k most order count (s ++ drop m order) m
      inserts_one h s f n =
          record {
            few = omega (arith, d);
            exact = λ es ys W q t N.
                rw (put_front k most count order few room p m d h s f n, (rw e at (goes es ys W q t N)).1)
                (names_take most (names_put p k q N));
          }
