-- The results of an opened term, in term order after each line that is tried.
use Prim.Native.Nat.{ℕ, ◌+◌, ◌*◌, ◌/◌, ◌≤◌, ◌<◌}
use native.Mathlib.Omega.{arith}
use mathlib.Core.Path.{◌≡◌, refl, sym, ap, ◌∙◌}
use mathlib.Core.Logic.{⊎_elim}
use mathlib.Core.Bool.{Bool, true, false, cond, ◌&&◌}
use mathlib.Core.Option.{Option, none, some}
use mathlib.Core.List.{List, [], ◌∷◌, ◌++◌, foldl-append}
use borrow.Author.Tests.{le-leb, lt-leb, le-ltb, ltb-true, ltb-false}
use lib.Dec.{leb, ltb}
use lib.ListN.{length, take}
use lib.Seq.{length-take-le}
use denote.Ref.{at_last}
use Rattle.std.specs.Prelude.{Option as Answer, Some, None}
use Rattle.terms.specs.Lists.{◌∈◌, here, there, not-in-nil, cons-cases, of_map, only_one}
use Rattle.terms.specs.Term.{Term, letter, zero, one, add, mul, size, depth, same}
use Rattle.terms.specs.Held.{IsRun}
use Rattle.terms.specs.Sort.{lost, insert}
use Rattle.terms.specs.Promises.{Deep}
use Rattle.terms.specs.Theory.Held.{size_of}
use Rattle.search.specs.Law as law
use Rattle.search.specs.Line as line
use Rattle.search.specs.Line.{Line, Limits, by_result, within, allowed, changed, at_root, from, to, rewrite}
use Rattle.search.specs.Place.{subterm_at, placed}
use Rattle.search.specs.Coded.{law_of, direction_of}
use Rattle.search.specs.Spliced.{kept, tried, Gives, Tries}
use Rattle.search.specs.Search.{Noted}
use Rattle.search.specs.Slots.{Marks}
use Rattle.search.specs.Ordered.{Ordered, unknown, joined, Keeps}
use Rattle.search.specs.Resulted.{tried_by, Lent, TooDeep, Adds}
use Rattle.search.specs.declared.search.Law.{Law}
use Rattle.search.specs.declared.search.Direction.{Direction}
use Rattle.search.specs.declared.slots.Step.{Step}
use Rattle.search.specs.declared.results.Results.{Results}
use Rattle.search.proofs.Coded.{law_named}
use Rattle.search.proofs.Unknown.{unknown_append}

-- the lines that keep the limits

module _ (m : Limits) where
  pub allowed_in : (x : Line) (xs : List Line) → within m x.result ≡ true → allowed m (x ∷ xs) ≡ x ∷ allowed m xs
  unfolding allowed
  allowed_in x xs e = rw (e, allowed)

  pub allowed_out : (x : Line) (xs : List Line) → within m x.result ≡ false → allowed m (x ∷ xs) ≡ allowed m xs
  unfolding allowed
  allowed_out x xs e = rw (e, allowed)

  pub allowed_append : (xs ys : List Line) → allowed m (xs ++ ys) ≡ allowed m xs ++ allowed m ys
  unfolding allowed
  allowed_append [] ys = refl
  allowed_append (x ∷ xs) ys = go (within m x.result) (allowed_append xs ys)
    where
      go : (b : Bool) → allowed m (xs ++ ys) ≡ allowed m xs ++ allowed m ys
          → elim b [ true ↦ x ∷ allowed m (xs ++ ys) | false ↦ allowed m (xs ++ ys) ] ≡ elim b [ true ↦ x ∷ allowed m xs | false ↦ allowed m xs ] ++ allowed m ys
      go true e = ap (λ l. x ∷ l) e
      go false e = e

  within_both : (t : Term) → size t ≤ m.size → depth t ≤ m.depth → within m t ≡ true
  unfolding within
  within_both t h k = rw (le-leb (size t) m.size h, le-leb (depth t) m.depth k)

  within_large : (t : Term) → leb (size t) m.size ≡ false → within m t ≡ false
  unfolding within
  within_large t e = rw e

  within_deep : (t : Term) → m.depth < depth t → within m t ≡ false
  unfolding within
  within_deep t k = rw (lt-leb (depth t) m.depth k) (both (leb (size t) m.size))
    where
      both : (b : Bool) → (b && false) ≡ false
      both true = refl
      both false = refl

  -- lines that are too large are not allowed
  allowed_kept : (xs : List Line) → allowed m (kept m.size xs) ≡ allowed m xs
  unfolding kept
  allowed_kept [] = refl
  allowed_kept (x ∷ xs) = go (leb (size x.result) m.size) refl (allowed_kept xs)
    where
      go : (b : Bool) → leb (size x.result) m.size ≡ b → allowed m (kept m.size xs) ≡ allowed m xs
          → allowed m (cond b (x ∷ kept m.size xs) (kept m.size xs)) ≡ allowed m (x ∷ xs)
      go true e i = more (within m x.result) refl i
        where
          more : (b : Bool) → within m x.result ≡ b → allowed m (kept m.size xs) ≡ allowed m xs → allowed m (x ∷ kept m.size xs) ≡ allowed m (x ∷ xs)
          more true w i = allowed_in x (kept m.size xs) w ∙ ap (λ l. x ∷ l) i ∙ sym (allowed_in x xs w)
          more false w i = allowed_out x (kept m.size xs) w ∙ i ∙ sym (allowed_out x xs w)
      go false e i = i ∙ sym (allowed_out x xs (within_large x.result e))

-- what a step says of its line

kept_member : (m : ℕ) (xs : List Line) (z : Line) → z ∈ kept m xs → z ∈ xs
unfolding kept
kept_member m [] z k = k
kept_member m (x ∷ xs) z k = go (leb (size x.result) m) (kept_member m xs z) k
  where
    go : (b : Bool) → (z ∈ kept m xs → z ∈ xs) → z ∈ cond b (x ∷ kept m xs) (kept m xs) → z ∈ x ∷ xs
    go true f k = ⊎_elim here (λ n. there (f n)) (cons-cases k)
    go false f k = there (f k)

changed_member : (t : Term) (w : law.Law) (d : line.Direction) (o : Option Term) (z : Line) → z ∈ changed t w d o → (z.law ≡ w.name) × (z.direction ≡ d)
unfolding changed
changed_member t w d none z k = absurd (not-in-nil k)
changed_member t w d (some u) z k = go (same u t) k
  where
    go : (b : Bool) → z ∈ cond b [] (record { law = w.name; direction = d; place = []; result = u } ∷ []) → (z.law ≡ w.name) × (z.direction ≡ d)
    go true k = absurd (not-in-nil k)
    go false k = let e = only_one k in (ap (λ x. x.law) e, ap (λ x. x.direction) e)

pub line_marks : (s : Step) (t : Term) → s.place < size t → (z : Line) → z ∈ tried_by s t → Marks s t z
unfolding placed at_root
line_marks s t h z k =
    let u = subterm_at t s.place in
    let w = law_of s.law in
    let d = direction_of s.direction in
    let (y, n, e) = of_map (placed t s.place) (at_root u w d) k in
    let (p, q) = changed_member u w d (rewrite (from d w) (to d w) u) y n in
    record {
      law = ap (λ x. x.law) (sym e) ∙ p ∙ law_named s.law;
      direction = ap (λ x. x.direction) (sym e) ∙ q;
      inside = h;
      place = ap (λ x. x.place) (sym e);
    }

-- lines one after another

pub joined_append : (ns : List Noted) (ys xs zs : List Line) → joined ns ys (xs ++ zs) ≡ joined ns (joined ns ys xs) zs
joined_append ns ys xs zs = rw (unknown_append ns xs zs) (foldl-append (λ l x. insert lost by_result x l) ys (unknown ns xs) (unknown ns zs))

module _ {ws : List ℕ} {noted : ℕ} {xs : List ℕ} {room deep from : ℕ} where
  pub adds_none : (res order : List ℕ) (count : ℕ) → Adds ws noted xs room deep from (λ t. []) 0 res order count res order count
  unfolding allowed unknown
  adds_none res order count = record { low = omega arith; high = omega arith; exact = λ ns t m ys S c h s d O. O }

  pub adds_then : {new new' : Term → List Line} {most most' : ℕ} {res order res' order' res'' order'' : List ℕ} {count r r' : ℕ}
      → Adds ws noted xs room deep from new most res order count res' order' r → Adds ws noted xs room deep from new' most' res' order' r res'' order'' r'
      → Adds ws noted xs room deep from (λ t. new t ++ new' t) (most + most') res order count res'' order'' r'
  adds_then {new} {new'} A B =
      record {
        low = omega (arith, A.low, B.low);
        high = omega (arith, A.high, B.high);
        exact = λ ns t m ys S c h s d O.
            rw (allowed_append m (new t) (new' t), joined_append ns ys (allowed m (new t)) (allowed m (new' t))) (B.exact ns t m (joined ns ys (allowed m (new t))) S c h s d (A.exact ns t m ys S c h s d O));
      }

  -- other lines that give the same results
  pub adds_same : {new : Term → List Line} (new' : Term → List Line) {most : ℕ} (most' : ℕ) {res order res' order' : List ℕ} {count r : ℕ}
      → ((ns : List Noted) (t : Term) (m : Limits) (ys : List Line) → joined ns ys (allowed m (new' t)) ≡ joined ns ys (allowed m (new t))) → most ≤ most'
      → Adds ws noted xs room deep from new most res order count res' order' r → Adds ws noted xs room deep from new' most' res order count res' order' r
  adds_same new' most' e h A =
      record { low = A.low; high = omega (arith, A.high); exact = λ ns t m ys S c k s d O. rw (e ns t m ys) (A.exact ns t m ys S c k s d O) }

  -- the same lines, said another way
  pub adds_as : {new : Term → List Line} (new' : Term → List Line) {most : ℕ} (most' : ℕ) {res order res' order' : List ℕ} {count r : ℕ}
      → ((t : Term) → new' t ≡ new t) → most ≤ most' → Adds ws noted xs room deep from new most res order count res' order' r
      → Adds ws noted xs room deep from new' most' res order count res' order' r
  adds_as new' most' e h A = adds_same new' most' (λ ns t m ys. ap (λ zs. joined ns ys (allowed m zs)) (e t)) h A

-- a step tried

pub tries_within : {w : Law} {d : Direction} {xs : List ℕ} {at room : ℕ} {out : List ℕ} {f : Answer ℕ} {k : ℕ} → Tries w d xs at room out f → f ≡ Some k → k ≤ room
tries_within T e = (rw e at T).within.1

-- what holds of the lines that the limits allow, by the line that is tried
module _ (s : Step) (xs : List ℕ) (room : ℕ) (out : List ℕ) (f : Answer ℕ) (inside : s.place < length xs) (T : Tries s.law s.direction xs s.place room out f)
    (t : Term) (m : Limits) (h : IsRun xs t) (e : m.size ≡ room) (P : List Line → Type 0) where
  by_tried : ((zs : List Line) → Gives out f zs → ((z : Line) → z ∈ zs → Marks s t z) → P (allowed m zs)) → P (allowed m (tried_by s t))
  unfolding tried
  by_tried g =
      let i : s.place < size t = omega (arith, size_of h) in
      rw (← (ap (λ z. allowed m (kept z (tried_by s t))) (sym e) ∙ allowed_kept m (tried_by s t)))
      (g (kept room (tried_by s t)) (T.exact t h i) (λ z k. line_marks s t i z (kept_member room (tried_by s t) z k)))

  pub by_nothing : f ≡ None → P [] → P (allowed m (tried_by s t))
  unfolding allowed
  by_nothing q p = by_tried (λ zs G M. go zs (rw q at G))
    where
      go : (zs : List Line) → Gives out None zs → P (allowed m zs)
      go [] G = p
      go (z ∷ zs) G = absurd G

  module _ (k : ℕ) (q : f ≡ Some k) (whole : length out ≡ room) where
    -- one line, whose result stands at the front of the buffer
    by_line : ((x : Line) → size x.result ≤ m.size → IsRun (take k out) x.result → Marks s t x → P (allowed m (x ∷ []))) → P (allowed m (tried_by s t))
    by_line g = by_tried (λ zs G M. go zs (rw q at G) M)
      where
        go : (zs : List Line) → Gives out (Some k) zs → ((z : Line) → z ∈ zs → Marks s t z) → P (allowed m zs)
        go [] G M = absurd G
        go (x ∷ []) G M = g x (omega (arith, size_of G, length-take-le k out (omega (arith, tries_within T q)), tries_within T q)) G (M x (here refl))
        go (x ∷ y ∷ zs) G M = absurd G

    module _ (deep : ℕ) (d : m.depth ≡ deep) (b : Bool) (D : TooDeep (take k out) deep b) where
      pub by_too_deep : b ≡ true → P [] → P (allowed m (tried_by s t))
      unfolding allowed
      by_too_deep r p =
          by_line
          (λ x z H M.
          let g = ltb-true deep (depth x.result) (sym (D.exact x.result H) ∙ r) in rw (allowed_out m x [] (within_deep m x.result (omega (arith, g, d)))) p)

      pub by_one : b ≡ false → ((x : Line) → IsRun (take k out) x.result → Marks s t x → P (x ∷ [])) → P (allowed m (tried_by s t))
      unfolding allowed
      by_one r p =
          by_line
          (λ x z H M.
          let g = ltb-false deep (depth x.result) (sym (D.exact x.result H) ∙ r) in rw (allowed_in m x [] (within_both m x.result z (omega (arith, g, d)))) (p x H M))

module _ (ws : List ℕ) (noted : ℕ) (s : Step) (xs : List ℕ) (room deep : ℕ) (out res order : List ℕ) (count : ℕ) (f : Answer ℕ) (inside : s.place < length xs)
    (T : Tries s.law s.direction xs s.place room out f) where
  -- the slots have the results with those of zs
  abbrev Gains : List ℕ → List ℕ → ℕ → List Noted → Term → List Line → List Line → Type 0
  Gains res' order' r ns t ys zs = Ordered t s.parent res count (take count order) ys → Ordered t s.parent res' r (take r order') (joined ns ys zs)

  pub adds_nothing : f ≡ None → Adds ws noted xs room deep s.parent (tried_by s) 1 res order count res order count
  unfolding unknown
  adds_nothing q =
      record {
        low = omega arith;
        high = omega arith;
        exact = λ ns t m ys S c h e d. by_nothing s xs room out f inside T t m h e (Gains res order count ns t ys) q (λ O. O);
      }

  module _ (k : ℕ) (q : f ≡ Some k) (whole : length out ≡ room) (b : Bool) (D : TooDeep (take k out) deep b) where
    pub adds_too_deep : b ≡ true → Adds ws noted xs room deep s.parent (tried_by s) 1 res order count res order count
    unfolding unknown
    adds_too_deep r =
        record {
          low = omega arith;
          high = omega arith;
          exact = λ ns t m ys S c h e d. by_too_deep s xs room out f inside T t m h e (Gains res order count ns t ys) k q whole deep d b D r (λ O. O);
        }

    pub adds_kept : b ≡ false → (res' order' : List ℕ) (r : ℕ) → Keeps ws noted (take k out) s res order res' order' count r
        → Adds ws noted xs room deep s.parent (tried_by s) 1 res order count res' order' r
    adds_kept g res' order' r K =
        record {
          low = K.low;
          high = K.high;
          exact = λ ns t m ys S c h e d.
              by_one s xs room out f inside T t m h e (Gains res' order' r ns t ys) k q whole deep d b D g (λ x H M. K.sorts ns t ys x S c H M);
        }

-- whether a result is too deep

-- a term of n nodes is at most half of n deep
half_deep : (t : Term) → 2 * depth t + 1 ≤ size t
unfolding depth size
half_deep (letter n) = omega arith
half_deep zero = omega arith
half_deep one = omega arith
half_deep (add s t) = omega (arith, half_deep s, half_deep t)
half_deep (mul s t) = omega (arith, half_deep s, half_deep t)

module _ (xs : List ℕ) (limit : ℕ) where
  pub flat : length xs / 2 ≤ limit → TooDeep xs limit false
  flat h = record { exact = λ t k. sym (le-ltb limit (depth t) (omega (arith, half_deep t, size_of k))) }

  pub walked : (d : ℕ) → Deep xs d → TooDeep xs limit (ltb limit d)
  walked d D = record { exact = λ t k. ap (ltb limit) (D.terms t k) }

-- lent twice
pub lent_then : (r r₁ r₂ : Results) → Lent r.slots r.order r₁.slots r₁.order → Lent r₁.slots r₁.order r₂.slots r₂.order → Lent r.slots r.order r₂.slots r₂.order
lent_then r r₁ r₂ A B =
    (B.0 ∙ ap (λ b. at_last b r₂.slots.now) A.0, B.1 ∙ ap (λ b. at_last b r₂.order.now) A.1, B.2 ∙ A.2, B.3 ∙ A.3)
