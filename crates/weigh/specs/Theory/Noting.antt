-- What noting a term and marking one as opened do to the noted terms.
use Prim.Native.Nat.{ℕ, suc, ◌+◌, ◌≤◌, ◌<◌}
use Rattle.std.proofs.Common.{arith, ◌∙◌}
use Rattle.std.specs.Prelude.{◌≡◌, ◌⊎◌, Bool, ltb, leb}
use Rattle.std.proofs.Math.Path.{refl, sym, ap, subst}
use Rattle.std.proofs.Math.Logic.{inl, inr, ⊎_elim}
use Rattle.std.proofs.Math.Bool.{true, false}
use Rattle.std.proofs.lemmas.Bool.{false≢true}
use mathlib.Core.List.{List, [], ◌∷◌}
use Rattle.terms.specs.Lists.{◌∈◌, here, there, not-in-nil, cons-cases, only_one, in-cast, in_map, of_map, Distinct, none, more}
use Rattle.terms.specs.Term.{Term, same}
use Rattle.terms.specs.Theory.Reflects.{Reflects, leb_reflects}
use Rattle.terms.specs.Theory.TermOrder.{same_reflects}
use Rattle.search.specs.Line.{Line}
use Rattle.weigh.specs.Weigh.{Weights, Weighed, terms, led, note, note_lines, mark, opened_count}

-- t is noted with a total of k or less
abbrev pub Near : List Weighed → Term → ℕ → Type 0
Near noted t k = (z : Weighed) × z ∈ noted × (z.term ≡ t) × (z.total ≤ k)

-- n replaces z, has z before it, or z has another term
pub note_cases : (P : List Weighed → Type 0) (n z : Weighed) (zs : List Weighed)
    → (n.term ≡ z.term → n.total < z.total → P (n ∷ zs))
    → (n.term ≡ z.term → z.total ≤ n.total → P (z ∷ zs))
    → ((n.term ≡ z.term → ⊥) → P (z ∷ note n zs))
    → P (note n (z ∷ zs))
unfolding note
note_cases P n z zs lower stays other = go (same n.term z.term) (same_reflects n.term z.term)
  where
    compared : n.term ≡ z.term → (b : Bool) → Reflects (n.total < z.total) b → P (elim b [ true ↦ n ∷ zs | false ↦ z ∷ zs ])
    compared e true h = lower e h
    compared e false h = stays e (omega arith)

    go : (b : Bool) → Reflects (n.term ≡ z.term) b
        → P (elim b [ false ↦ z ∷ note n zs | true ↦ elim (ltb n.total z.total) [ true ↦ n ∷ zs | false ↦ z ∷ zs ] ])
    go true e = compared e (ltb n.total z.total) (leb_reflects (suc n.total) z.total)
    go false h = other h

abbrev counting : Bool → ℕ → ℕ
counting b k = elim b [ true ↦ suc k | false ↦ k ]

module _ (n : Weighed) where
  -- nothing else comes in
  pub note_made : (zs : List Weighed) (a : Weighed) → a ∈ note n zs → (a ≡ n) ⊎ a ∈ zs
  unfolding note
  note_made [] a = λ m. inl (only_one m)
  note_made (z ∷ zs) a =
      note_cases (λ l. a ∈ l → (a ≡ n) ⊎ a ∈ z ∷ zs) n z zs
      (λ e h m. ⊎_elim inl (λ k. inr (there k)) (cons-cases m))
      (λ e h m. inr m)
      (λ h m. ⊎_elim (λ p. inr (here p)) (λ k. ⊎_elim inl (λ i. inr (there i)) (note_made zs a k)) (cons-cases m))

  -- a term stays unless n has it with a lower total
  pub note_keeps : (zs : List Weighed) (a : Weighed) → a ∈ zs → a.total ≤ n.total → a ∈ note n zs
  unfolding note
  note_keeps [] a m h = absurd (not-in-nil m)
  note_keeps (z ∷ zs) a m h =
      note_cases (λ l. a ∈ l) n z zs
      (λ e k. ⊎_elim (λ p. let q : z.total ≡ a.total = ap (λ y. y.total) (sym p) in absurd (omega arith)) there (cons-cases m))
      (λ e k. m)
      (λ k. ⊎_elim here (λ i. there (note_keeps zs a i h)) (cons-cases m))

  -- n has its term noted, with its total or less
  pub note_has : (zs : List Weighed) → Near (note n zs) n.term n.total
  unfolding note
  note_has [] = (n, here refl, refl, omega arith)
  note_has (z ∷ zs) =
      note_cases (λ l. Near l n.term n.total) n z zs
      (λ e h. (n, here refl, refl, omega arith))
      (λ e h. (z, here refl, sym e, h))
      (λ h. let (a, m, e, k) = note_has zs in (a, there m, e, k))

  -- what is noted stays noted, with its total or less
  pub note_near : (zs : List Weighed) (t : Term) (k : ℕ) → Near zs t k → Near (note n zs) t k
  unfolding note
  note_near [] t k (a, m, e, h) = absurd (not-in-nil m)
  note_near (z ∷ zs) t k (a, m, e, h) =
      note_cases (λ l. Near l t k) n z zs
      (λ f i. ⊎_elim (λ (p : a ≡ z). (n, here refl, f ∙ sym (ap (λ y. y.term) p) ∙ e, omega (arith, ap (λ y. y.total) p))) (λ j. (a, there j, e, h)) (cons-cases m))
      (λ f i. (a, m, e, h))
      (λ i. ⊎_elim (λ p. (a, here p, e, h)) (λ j. let (b, u, f, g) = note_near zs t k (a, j, e, h) in (b, there u, f, g)) (cons-cases m))

  -- a term of the longer list is that of n or was there
  note_term : (zs : List Weighed) (t : Term) → t ∈ terms (note n zs) → (t ≡ n.term) ⊎ t ∈ terms zs
  note_term zs t m =
      let (a, i, e) = of_map (λ x. x.term) (note n zs) m in
      ⊎_elim (λ p. inl (sym e ∙ ap (λ x. x.term) p)) (λ j. inr (in-cast (sym e) (in_map (λ (x : Weighed). x.term) j))) (note_made zs a i)

  pub note_distinct : (zs : List Weighed) → Distinct (terms zs) → Distinct (terms (note n zs))
  unfolding note
  note_distinct [] d = more not-in-nil none
  note_distinct (z ∷ zs) (more h d) =
      note_cases (λ l. Distinct (terms l)) n z zs
      (λ e k. more (λ m. h (rw e at m)) d)
      (λ e k. more h d)
      (λ k. more (λ m. ⊎_elim (λ e. k (sym e)) h (note_term zs z.term m)) (note_distinct zs d))

  -- as many are opened, if n is not and no opened one is heavier
  pub note_count : n.opened ≡ false → (zs : List Weighed) → ((a : Weighed) → a ∈ zs → a.opened ≡ true → a.total ≤ n.total)
      → opened_count (note n zs) ≡ opened_count zs
  unfolding note opened_count
  note_count o [] h = rw (o, opened_count)
  note_count o (z ∷ zs) h =
      note_cases (λ l. opened_count l ≡ opened_count (z ∷ zs)) n z zs
      (λ e k. counted n.opened o z.opened (λ p. let q = h z (here refl) p in omega arith))
      (λ e k. refl)
      (λ k. one_more z.opened (note_count o zs (λ a m. h a (there m))))
    where
      counted : (b : Bool) → b ≡ false → (c : Bool) → (c ≡ true → ⊥) → counting b (opened_count zs) ≡ counting c (opened_count zs)
      counted true p c q = absurd (false≢true (sym p))
      counted false p true q = absurd (q refl)
      counted false p false q = refl

      one_more : (b : Bool) → opened_count (note n zs) ≡ opened_count zs → counting b (opened_count (note n zs)) ≡ counting b (opened_count zs)
      one_more true e = ap suc e
      one_more false e = e

-- the lines ys on x are taken
module _ (w : Weights) (cost : ℕ) (x : Weighed) where
  pub record Takes (ys : List Line) (zs zs' : List Weighed) : Type 0 where
    pub made : (a : Weighed) → a ∈ zs' → a ∈ zs ⊎ ((y : Line) × y ∈ ys × (a ≡ led w x y) × (a.total ≤ cost))
    pub kept : (a : Weighed) → a ∈ zs → a.total ≤ x.total → a ∈ zs'
    pub near : (t : Term) (k : ℕ) → Near zs t k → Near zs' t k
    pub covers : (y : Line) → y ∈ ys → x.total + w y.law ≤ cost → Near zs' y.result (x.total + w y.law)
    pub distinct : Distinct (terms zs) → Distinct (terms zs')
    pub count : ((a : Weighed) → a ∈ zs → a.opened ≡ true → a.total ≤ x.total) → opened_count zs' ≡ opened_count zs

  takes_none : (zs : List Weighed) → Takes [] zs zs
  takes_none zs =
      record {
        made = λ a m. inl m;
        kept = λ a m h. m;
        near = λ t k h. h;
        covers = λ y m. absurd (not-in-nil m);
        distinct = λ d. d;
        count = λ h. refl;
      }

  module _ (y : Line) (ys : List Line) (zs zs' : List Weighed) where
    takes_skip : (x.total + w y.law ≤ cost → ⊥) → Takes ys zs zs' → Takes (y ∷ ys) zs zs'
    takes_skip h t =
        record {
          made = λ a m. ⊎_elim inl (λ (z, i, e, c). inr (z, there i, e, c)) (t.made a m);
          kept = t.kept;
          near = t.near;
          covers = λ z m c. ⊎_elim (λ (e : z ≡ y). absurd (h (rw e at c))) (λ i. t.covers z i c) (cons-cases m);
          distinct = t.distinct;
          count = t.count;
        }

    takes_note : x.total + w y.law ≤ cost → Takes ys (note (led w x y) zs) zs' → Takes (y ∷ ys) zs zs'
    takes_note h t =
        record {
          made = λ a m.
              ⊎_elim
              (λ i. ⊎_elim (λ (e : a ≡ led w x y). inr (y, here refl, e, rw e h)) inl (note_made (led w x y) zs a i))
              (λ (z, i, e, c). inr (z, there i, e, c))
              (t.made a m);
          kept = λ a m k. t.kept a (note_keeps (led w x y) zs a m (omega arith)) k;
          near = λ s k n. t.near s k (note_near (led w x y) zs s k n);
          covers = λ z m c.
              ⊎_elim (λ (e : z ≡ y). rw e (t.near y.result (x.total + w y.law) (note_has (led w x y) zs))) (λ i. t.covers z i c) (cons-cases m);
          distinct = λ d. t.distinct (note_distinct (led w x y) zs d);
          count = λ k.
              t.count
              (λ a m o. ⊎_elim (λ (e : a ≡ led w x y). absurd (false≢true (sym (ap (λ z. z.opened) e) ∙ o))) (λ i. k a i o) (note_made (led w x y) zs a m))
              ∙ note_count (led w x y) refl zs (λ a m o. let i = k a m o in omega arith);
        }

  pub takes : (ys : List Line) (zs : List Weighed) → Takes ys zs (note_lines w cost x ys zs)
  unfolding note_lines
  takes [] zs = takes_none zs
  takes (y ∷ ys) zs = go (leb (x.total + w y.law) cost) (leb_reflects (x.total + w y.law) cost) (takes ys zs) (takes ys (note (led w x y) zs))
    where
      go : (b : Bool) → Reflects (x.total + w y.law ≤ cost) b → Takes ys zs (note_lines w cost x ys zs)
          → Takes ys (note (led w x y) zs) (note_lines w cost x ys (note (led w x y) zs))
          → Takes (y ∷ ys) zs (elim b [ true ↦ note_lines w cost x ys (note (led w x y) zs) | false ↦ note_lines w cost x ys zs ])
      go true h a b = takes_note y ys zs (note_lines w cost x ys (note (led w x y) zs)) h b
      go false h a b = takes_skip y ys zs (note_lines w cost x ys zs) h a

-- x, opened
abbrev pub opened : Weighed → Weighed
opened x = record { term = x.term; trail = x.trail; total = x.total; opened = true }

pub mark_cases : (P : List Weighed → Type 0) (t : Term) (z : Weighed) (zs : List Weighed) → (t ≡ z.term → P (opened z ∷ zs))
    → ((t ≡ z.term → ⊥) → P (z ∷ mark t zs)) → P (mark t (z ∷ zs))
unfolding mark
mark_cases P t z zs found other = go (same t z.term) (same_reflects t z.term)
  where
    go : (b : Bool) → Reflects (t ≡ z.term) b → P (elim b [ true ↦ opened z ∷ zs | false ↦ z ∷ mark t zs ])
    go true e = found e
    go false h = other h

pub mark_terms : (t : Term) (zs : List Weighed) → terms (mark t zs) ≡ terms zs
unfolding mark
mark_terms t [] = refl
mark_terms t (z ∷ zs) = mark_cases (λ l. terms l ≡ terms (z ∷ zs)) t z zs (λ e. refl) (λ h. ap (λ l. z.term ∷ l) (mark_terms t zs))

-- two entries with one term are the same
pub same_entry : (zs : List Weighed) → Distinct (terms zs) → (a b : Weighed) → a ∈ zs → b ∈ zs → a.term ≡ b.term → a ≡ b
same_entry [] d a b m n e = absurd (not-in-nil m)
same_entry (z ∷ zs) (more h d) a b m n e =
    ⊎_elim
    (λ (p : a ≡ z). ⊎_elim (λ (q : b ≡ z). p ∙ sym q) (λ j. absurd (h (in-cast (sym (ap (λ y. y.term) p) ∙ e) (in_map (λ (y : Weighed). y.term) j)))) (cons-cases n))
    (λ i. ⊎_elim (λ (q : b ≡ z). absurd (h (in-cast (sym (ap (λ y. y.term) q) ∙ sym e) (in_map (λ (y : Weighed). y.term) i)))) (λ j. same_entry zs d a b i j e) (cons-cases n))
    (cons-cases m)

-- x is opened
module _ (x : Weighed) where
  pub record Marks (zs zs' : List Weighed) : Type 0 where
    pub made : (a : Weighed) → a ∈ zs' → (a ∈ zs × (a.term ≡ x.term → ⊥)) ⊎ (a ≡ opened x)
    pub kept : (a : Weighed) → a ∈ zs → (a.term ≡ x.term → ⊥) → a ∈ zs'
    pub has : opened x ∈ zs'
    pub count : x.opened ≡ false → opened_count zs' ≡ suc (opened_count zs)

  marks_here : (zs : List Weighed) → (x.term ∈ terms zs → ⊥) → Marks (x ∷ zs) (opened x ∷ zs)
  unfolding opened_count
  marks_here zs h =
      record {
        made = λ a m. ⊎_elim inr (λ i. inl (there i, λ e. h (in-cast (sym e) (in_map (λ (y : Weighed). y.term) i)))) (cons-cases m);
        kept = λ a m k. ⊎_elim (λ p. absurd (k (ap (λ y. y.term) p))) there (cons-cases m);
        has = here refl;
        count = λ o. rw (o, opened_count);
      }

  marks_later : (z : Weighed) (zs zs' : List Weighed) → (z.term ≡ x.term → ⊥) → Marks zs zs' → Marks (z ∷ zs) (z ∷ zs')
  unfolding opened_count
  marks_later z zs zs' h m =
      record {
        made = λ a i. ⊎_elim (λ (e : a ≡ z). inl (here e, λ p. h (sym (ap (λ y. y.term) e) ∙ p))) (λ j. ⊎_elim (λ (k, p). inl (there k, p)) inr (m.made a j)) (cons-cases i);
        kept = λ a i k. ⊎_elim here (λ j. there (m.kept a j k)) (cons-cases i);
        has = there m.has;
        count = λ o. one_more z.opened (m.count o);
      }
    where
      one_more : (b : Bool) → opened_count zs' ≡ suc (opened_count zs) → counting b (opened_count zs') ≡ suc (counting b (opened_count zs))
      one_more true e = ap suc e
      one_more false e = e

  pub marks : (zs : List Weighed) → Distinct (terms zs) → x ∈ zs → Marks zs (mark x.term zs)
  unfolding mark
  marks [] d m = absurd (not-in-nil m)
  marks (z ∷ zs) (more h d) m =
      mark_cases (Marks (z ∷ zs)) x.term z zs
      (λ e.
      let p : x ≡ z = same_entry (z ∷ zs) (more h d) x z m (here refl) e in
      subst (λ y. Marks (y ∷ zs) (opened y ∷ zs)) p (marks_here zs (λ i. h (in-cast (sym e) i))))
      (λ k.
      ⊎_elim (λ (p : x ≡ z). absurd (k (ap (λ y. y.term) p)))
      (λ i. marks_later z zs (mark x.term zs) (λ p. k (sym p)) (marks zs d i))
      (cons-cases m))
