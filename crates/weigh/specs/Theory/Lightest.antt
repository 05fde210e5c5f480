-- Of several lines to one result the lightest counts, then the first; a lower total replaces path and total.
use Rattle.std.specs.Prelude.{ℕ, ◌+◌, ◌≤◌, ◌<◌, ◌≡◌, refl, ◌⊎◌, Bool, leb}
use Rattle.std.proofs.Common.{arith, sym, ◌∙◌, ap, inr, ⊎_elim}
use Rattle.std.proofs.Math.Logic.{inl}
use Rattle.std.proofs.Math.Bool.{true, false}
use mathlib.Core.List.{List, [], ◌∷◌, ◌++◌}
use Rattle.terms.specs.Lists.{◌∈◌, here, there, not-in-nil, cons-cases, only_one, in-cast, in_map, Distinct, more}
use Rattle.terms.specs.Term.{Term}
use Rattle.terms.specs.Theory.Order.{below?}
use Rattle.terms.specs.Theory.Reflects.{Reflects, leb_reflects}
use Rattle.search.specs.Line.{Line}
use Rattle.weigh.specs.Weigh.{Weights, Weighed, led, note, note_lines, terms}
use Rattle.weigh.specs.Theory.Noting.{Near, note_cases, note_has, note_near, note_distinct, same_entry, takes}

-- every one with the term of n is heavier
abbrev Heavier : List Weighed → Weighed → Type 0
Heavier zs n = (z : Weighed) → z ∈ zs → z.term ≡ n.term → n.total < z.total

-- n comes in only where it is lighter
note_new : (n : Weighed) (zs : List Weighed) → Distinct (terms zs) → (a : Weighed) → a ∈ note n zs → a ∈ zs ⊎ ((a ≡ n) × Heavier zs n)
unfolding note
note_new n [] d a = λ m. inr (only_one m, λ z i. absurd (not-in-nil i))
note_new n (z ∷ zs) (more h d) a =
    note_cases (λ l. a ∈ l → a ∈ z ∷ zs ⊎ ((a ≡ n) × Heavier (z ∷ zs) n)) n z zs
    (λ e k m. ⊎_elim (λ p. inr (p, λ b i q. ⊎_elim (λ (r : b ≡ z). omega (arith, ap (λ y. y.total) r)) (λ j. absurd (h (in-cast (sym e ∙ sym q) (in_map (λ (y : Weighed). y.term) j)))) (cons-cases i))) (λ i. inl (there i)) (cons-cases m))
    (λ e k m. inl m)
    (λ k m. ⊎_elim (λ p. inl (here p)) (λ i. later k (note_new n zs d a i)) (cons-cases m))
  where
    later : (n.term ≡ z.term → ⊥) → a ∈ zs ⊎ ((a ≡ n) × Heavier zs n) → a ∈ z ∷ zs ⊎ ((a ≡ n) × Heavier (z ∷ zs) n)
    later k (inl i) = inl (there i)
    later k (inr (p, f)) = inr (p, λ b i q. ⊎_elim (λ (r : b ≡ z). absurd (k (sym q ∙ ap (λ y. y.term) r))) (λ j. f b j q) (cons-cases i))

module _ (w : Weights) (cost : ℕ) (x : Weighed) where
  -- y is the lightest of the lines to its result, and of those the first
  pub record Lightest (ys : List Line) (y : Line) : Type 0 where
    pub front : List Line
    pub back : List Line
    pub split : ys ≡ front ++ (y ∷ back)
    pub lighter : (u : Line) → u ∈ front → u.result ≡ y.result → w y.law < w u.law
    pub lightest : (u : Line) → u ∈ back → u.result ≡ y.result → w y.law ≤ w u.law

  -- it was noted with a total that no line lowers
  abbrev Stays : List Line → List Weighed → Weighed → Type 0
  Stays ys zs a = a ∈ zs × ((y : Line) → y ∈ ys → y.result ≡ a.term → x.total + w y.law ≤ cost → a.total ≤ x.total + w y.law)

  -- it comes by the line that counts, and was not noted or with a greater total
  abbrev Comes : List Line → List Weighed → Weighed → Type 0
  Comes ys zs a = (y : Line) × Lightest ys y × (a ≡ led w x y) × (a.total ≤ cost) × Heavier zs a

  abbrev pub Counts : List Line → List Weighed → Weighed → Type 0
  Counts ys zs a = Stays ys zs a ⊎ Comes ys zs a

  counts_skip : (y : Line) (ys : List Line) (zs : List Weighed) (a : Weighed) → (x.total + w y.law ≤ cost → ⊥) → Counts ys zs a → Counts (y ∷ ys) zs a
  counts_skip y ys zs a h (inl (i, k)) = inl (i, λ u m r c. ⊎_elim (λ (e : u ≡ y). absurd (h (rw e at c))) (λ j. k u j r c) (cons-cases m))
  counts_skip y ys zs a h (inr (u, l, e, c, f)) =
      inr (
        u,
        record {
          front = y ∷ l.front;
          back = l.back;
          split = ap (λ t. y ∷ t) l.split;
          lighter = λ v m r. ⊎_elim (λ (q : v ≡ y). let t = ap (λ z. z.total) e in rw q (omega arith)) (λ j. l.lighter v j r) (cons-cases m);
          lightest = l.lightest;
        },
        e,
        c,
        f,
      )

  module _ (y : Line) (ys : List Line) (zs : List Weighed) (d : Distinct (terms zs)) (within : x.total + w y.law ≤ cost) (a : Weighed) where
    abbrev more_noted : List Weighed
    more_noted = note (led w x y) zs

    -- one with the result of y is no heavier than it makes it
    no_heavier : a ∈ more_noted → y.result ≡ a.term → a.total ≤ x.total + w y.law
    no_heavier i r =
        let (b, j, e, h) = note_has (led w x y) zs in
        let q = same_entry more_noted (note_distinct (led w x y) zs d) a b i j (sym r ∙ sym e) in
        omega (arith, ap (λ z. z.total) q)

    counts_note : Counts ys more_noted a → Counts (y ∷ ys) zs a
    counts_note (inl (i, k)) = go (note_new (led w x y) zs d a i)
      where
        go : a ∈ zs ⊎ ((a ≡ led w x y) × Heavier zs (led w x y)) → Counts (y ∷ ys) zs a
        go (inl j) = inl (j, λ u m r c. ⊎_elim (λ (e : u ≡ y). rw e (no_heavier i (rw e at r))) (λ n. k u n r c) (cons-cases m))
        go (inr (e, f)) =
            inr (
              y,
              record {
                front = [];
                back = ys;
                split = refl;
                lighter = λ u m. absurd (not-in-nil m);
                lightest = λ u m r.
                    let t = ap (λ z. z.total) e in
                    ⊎_elim (λ h. omega (arith, k u m (r ∙ sym (ap (λ z. z.term) e)) (omega arith))) (λ h. omega arith) (below? (x.total + w u.law) (ℕ.suc cost));
              },
              e,
              rw e within,
              rw e f,
            )
    counts_note (inr (u, l, e, c, f)) =
        inr (
          u,
          record {
            front = y ∷ l.front;
            back = l.back;
            split = ap (λ t. y ∷ t) l.split;
            lighter = λ v m r. ⊎_elim (λ (q : v ≡ y). rw q (first (rw q at r))) (λ j. l.lighter v j r) (cons-cases m);
            lightest = l.lightest;
          },
          e,
          c,
          λ z i q. let (b, j, p, h) = note_near (led w x y) zs z.term z.total (z, i, refl, omega arith) in omega (arith, f b j (p ∙ q)),
        )
      where
        first : y.result ≡ u.result → w u.law < w y.law
        first r =
            let (b, j, p, h) = note_has (led w x y) zs in
            let t = ap (λ z. z.total) e in
            omega (arith, f b j (p ∙ r ∙ sym (ap (λ z. z.term) e)))

  all_count : (ys : List Line) (zs : List Weighed) → Distinct (terms zs) → (a : Weighed) → a ∈ note_lines w cost x ys zs → Counts ys zs a
  unfolding note_lines
  all_count [] zs d a = λ i. inl (i, λ y m. absurd (not-in-nil m))
  all_count (y ∷ ys) zs d a =
      go (leb (x.total + w y.law) cost) (leb_reflects (x.total + w y.law) cost)
      (λ i. all_count ys zs d a i) (λ i. all_count ys (note (led w x y) zs) (note_distinct (led w x y) zs d) a i)
    where
      go : (b : Bool) → Reflects (x.total + w y.law ≤ cost) b → (a ∈ note_lines w cost x ys zs → Counts ys zs a)
          → (a ∈ note_lines w cost x ys (note (led w x y) zs) → Counts ys (note (led w x y) zs) a)
          → a ∈ elim b [ true ↦ note_lines w cost x ys (note (led w x y) zs) | false ↦ note_lines w cost x ys zs ] → Counts (y ∷ ys) zs a
      go true h p q i = counts_note y ys zs d h a (q i)
      go false h p q i = counts_skip y ys zs a h (p i)

  -- after the lines ys: what is noted counts, the result of each line within cost is noted with its total or less, and no term is forgotten
  pub record Settled (ys : List Line) (zs zs' : List Weighed) : Type 0 where
    pub counts : (a : Weighed) → a ∈ zs' → Counts ys zs a
    pub covers : (y : Line) → y ∈ ys → x.total + w y.law ≤ cost → Near zs' y.result (x.total + w y.law)
    pub stays : (t : Term) (k : ℕ) → Near zs t k → Near zs' t k

  pub lightest_counts : (ys : List Line) (zs : List Weighed) → Distinct (terms zs) → Settled ys zs (note_lines w cost x ys zs)
  lightest_counts ys zs d =
      let t = takes w cost x ys zs in
      record { counts = all_count ys zs d; covers = t.covers; stays = t.near }
