-- Renamings of letters, some of which may be fixed: they can be undone and joined, and those onto 0, 1, and so on go before others.
use Rattle.std.specs.Prelude.{◌≡◌, ℕ, ◌<◌, Bool, true, false, T, ◌⊎◌, ◌↔◌, List, [], ◌∷◌, map, length, ◌==◌, refl}
use Rattle.std.proofs.Common.{arith, sym, ◌∙◌, ap, inl, inr, ⊎_elim}
use Rattle.std.proofs.lemmas.List.{length-map}
use Rattle.terms.specs.Lists.{◌∈◌, here, there, not-in-nil, cons-cases, in-cast, in_map, of_map, Distinct}
use Rattle.terms.specs.Theory.Reflects.{Reflects, eqb_reflects}
use Rattle.terms.specs.Theory.Distinct.{distinct_length}
use Rattle.words.specs.Rename.{renamed}
use Rattle.words.specs.Bijection.{Bijection}
use Rattle.words.specs.Shared.{OneToOne}
use Rattle.words.specs.Theory.Bijections.{renamed_first, renamed_later, map_distinct}

-- different letters of ns become different ones, free letters free ones, and the others stay
pub record Renaming (free : ℕ → Bool) (ns : List ℕ) (f : ℕ → ℕ) : Type 0 where
  pub one_to_one : OneToOne ns f
  pub frees : (n : ℕ) → n ∈ ns → T (free n) → T (free (f n))
  pub keeps : (n : ℕ) → n ∈ ns → (T (free n) → ⊥) → f n ≡ n

-- each letter stays
pub unchanged : {free : ℕ → Bool} {ns : List ℕ} → Renaming free ns (λ n. n)
unchanged = record { one_to_one = λ m n i j e. e; frees = λ n i t. t; keeps = λ n i fixed. refl }

-- the letters ms are what f makes of the letters ns
abbrev pub Image : (ℕ → ℕ) → (ns ms : List ℕ) → Type 0
Image f ns ms = (n : ℕ) → n ∈ ms ↔ ((m : ℕ) × m ∈ ns × (f m ≡ n))

-- a test that fails or passes
by_test : {P : Type 0} (b : Bool) → (T b → P) → ((T b → ⊥) → P) → P
by_test true f g = f tt
by_test false f g = g (λ t. t)

-- the letter that became another, looked up
renamed_back : (f : ℕ → ℕ) (ns : List ℕ) (n : ℕ) → n ∈ ns → ((m : ℕ) → m ∈ ns → f n ≡ f m → n ≡ m) → renamed (map f ns) ns (f n) ≡ n
renamed_back f [] n i apart = absurd (not-in-nil i)
renamed_back f (m ∷ ms) n i apart = go (f n == f m) (eqb_reflects (f n) (f m)) (renamed_back f ms n)
  where
    go : (b : Bool) → Reflects (f n ≡ f m) b → (n ∈ ms → ((l : ℕ) → l ∈ ms → f n ≡ f l → n ≡ l) → renamed (map f ms) ms (f n) ≡ n)
        → renamed (f m ∷ map f ms) (m ∷ ms) (f n) ≡ n
    go true e rest = renamed_first (f m) m (map f ms) ms (f n) e ∙ sym (apart m (here refl) e)
    go false h rest =
        renamed_later (f m) m (map f ms) ms (f n) h
        ∙ ⊎_elim (λ e. absurd (h (ap f e))) (λ k. rest k (λ l j. apart l (there j))) (cons-cases i)

module _ {free : ℕ → Bool} {ns : List ℕ} {f : ℕ → ℕ} (r : Renaming free ns f) where
  -- a renaming undone
  abbrev pub undo : ℕ → ℕ
  undo = renamed (map f ns) ns

  pub undone : (n : ℕ) → n ∈ ns → undo (f n) ≡ n
  undone n i = renamed_back f ns n i (λ m j. r.one_to_one n m i j)

  pub undoing : {ms : List ℕ} → Image f ns ms → Renaming free ms undo
  undoing image =
      record {
        one_to_one =
            λ a b i j e.
            let (m, k, p) = (image a).0 i in
            let (n, l, q) = (image b).0 j in
            sym p ∙ ap f (sym (undone m k) ∙ ap undo p ∙ e ∙ ap undo (sym q) ∙ undone n l) ∙ q;
        frees =
            λ a i h.
            let (m, k, p) = (image a).0 i in
            by_test (free m) (λ t. rw (← p, undone m k) t) (λ fixed. absurd (fixed (rw (← p, r.keeps m k fixed) at h)));
        keeps =
            λ a i fixed.
            let (m, k, p) = (image a).0 i in
            let stays = r.keeps m k (λ t. fixed (rw p at (r.frees m k t))) in
            rw (← p, undone m k) (sym stays);
      }

  -- another renaming after it
  pub joining : {ms : List ℕ} {g : ℕ → ℕ} → Image f ns ms → Renaming free ms g → Renaming free ns (λ n. g (f n))
  joining {ms} {g} image q =
      let put : (n : ℕ) → n ∈ ns → f n ∈ ms = λ n i. (image (f n)).1 (n, i, refl) in
      record {
        one_to_one = λ m n i j e. r.one_to_one m n i j (q.one_to_one (f m) (f n) (put m i) (put n j) e);
        frees = λ n i t. q.frees (f n) (put n i) (r.frees n i t);
        keeps = λ n i fixed. let e = r.keeps n i fixed in ap g e ∙ q.keeps n (in-cast (sym e) (put n i)) fixed;
      }

-- `names ns` are the free letters of ns, each once; there are enough free letters for so many numbers
pub record Listing (free : ℕ → Bool) (names : List ℕ → List ℕ) : Type 0 where
  pub distinct : (ns : List ℕ) → Distinct (names ns)
  pub members : (ns : List ℕ) (n : ℕ) → n ∈ names ns ↔ (n ∈ ns × T (free n))
  pub enough : (ns : List ℕ) (i : ℕ) → i < length (names ns) → T (free i)

-- the free letters of ns become 0, 1, and so on, and the others stay
pub record Naming (free : ℕ → Bool) (names : List ℕ → List ℕ) (ns : List ℕ) (f : ℕ → ℕ) : Type 0 where
  pub bijection : Bijection (names ns) f
  pub keeps : (n : ℕ) → n ∈ ns → (T (free n) → ⊥) → f n ≡ n

module _ {free : ℕ → Bool} {names : List ℕ → List ℕ} (L : Listing free names) where
  pub naming_renaming : {ns : List ℕ} {f : ℕ → ℕ} → Naming free names ns f → Renaming free ns f
  naming_renaming {ns} {f} b =
      record {
        one_to_one =
            λ m n i j e.
            by_test (free m)
            (λ t. by_test (free n) (λ u. b.bijection.one_to_one m n ((L.members ns m).1 (i, t)) ((L.members ns n).1 (j, u)) e)
            (λ fixed. absurd (fixed (rw (e ∙ b.keeps n j fixed) at (low m i t)))))
            (λ fixed. by_test (free n) (λ u. absurd (fixed (rw (sym e ∙ b.keeps m i fixed) at (low n j u))))
            (λ nor. sym (b.keeps m i fixed) ∙ e ∙ b.keeps n j nor));
        frees = low;
        keeps = b.keeps;
      }
    where
      low : (n : ℕ) → n ∈ ns → T (free n) → T (free (f n))
      low n i t = L.enough ns (f n) (b.bijection.below n ((L.members ns n).1 (i, t)))

  -- what becomes of a letter: a small number, or itself
  pub naming_gives : {ns : List ℕ} {f : ℕ → ℕ} → Naming free names ns f → (n : ℕ) → n ∈ ns → (f n < length (names ns)) ⊎ ((T (free n) → ⊥) × (f n ≡ n))
  naming_gives {ns} b n i = by_test (free n) (λ t. inl (b.bijection.below n ((L.members ns n).1 (i, t)))) (λ fixed. inr (fixed, b.keeps n i fixed))

  module _ {ns ms : List ℕ} {f : ℕ → ℕ} (r : Renaming free ns f) (image : Image f ns ms) where
    forth : (n : ℕ) → n ∈ names ns → f n ∈ names ms
    forth n i = let (j, t) = (L.members ns n).0 i in (L.members ms (f n)).1 ((image (f n)).1 (n, j, refl), r.frees n j t)

    back : (n : ℕ) → n ∈ names ms → (m : ℕ) × m ∈ names ns × (f m ≡ n)
    back n i =
        let (j, t) = (L.members ms n).0 i in
        let (m, k, e) = (image n).0 j in
        by_test (free m) (λ u. (m, (L.members ns m).1 (k, u), e)) (λ fixed. absurd (fixed (rw (sym e ∙ r.keeps m k fixed) at t)))

    one_to_one : (m n : ℕ) → m ∈ names ns → n ∈ names ns → f m ≡ f n → m ≡ n
    one_to_one m n i j = r.one_to_one m n ((L.members ns m).0 i).0 ((L.members ns n).0 j).0

    pub as_many : length (names ns) ≡ length (names ms)
    as_many =
        let most = distinct_length (map_distinct f (L.distinct ns) one_to_one) (names ms)
        (λ n i. let (m, j, e) = of_map f (names ns) i in in-cast (sym e) (forth m j)) in
        let least = distinct_length (L.distinct ms) (map f (names ns)) (λ n i. let (m, j, e) = back n i in in-cast (sym e) (in_map f j)) in
        omega (arith, simp length-map at most, simp length-map at least)

    -- a naming after a renaming is a naming
    pub naming_after : {g : ℕ → ℕ} → Naming free names ms g → Naming free names ns (λ n. g (f n))
    naming_after {g} b =
        record {
          bijection = record {
            below = λ n i. omega (arith, as_many, b.bijection.below (f n) (forth n i));
            one_to_one = λ m n i j e. one_to_one m n i j (b.bijection.one_to_one (f m) (f n) (forth m i) (forth n j) e);
            onto =
                λ i h.
                let (n, j, e) = b.bijection.onto i (omega (arith, as_many)) in
                let (m, k, d) = back n j in
                (m, k, ap g d ∙ e);
          };
          keeps = λ n i fixed. let e = r.keeps n i fixed in ap g e ∙ b.keeps n (in-cast (sym e) ((image (f n)).1 (n, i, refl))) fixed;
        }
