-- The count of kinds does not depend on the order of the entries, and is the number of different kinds that they have.
use Rattle.std.specs.Prelude.{◌≡◌, ℕ, suc, ◌+◌, ◌≤◌, Bool, true, false, ◌↔◌, List, [], ◌∷◌, ◌++◌, map, length}
use Rattle.std.proofs.Common.{arith, sym}
use Rattle.std.proofs.Math.Path.{refl}
use Rattle.std.proofs.Math.Logic.{⊎_elim}
use Rattle.terms.specs.Lists.{◌∈◌, here, there, not-in-nil, cons-cases, in-cast, Distinct, none, more}
use Rattle.terms.specs.Theory.Reflects.{Reflects}
use Rattle.terms.specs.Theory.Distinct.{distinct_length}
use Rattle.catalogue.specs.Catalogue.{Entry, has_kind, fresh, kinds}

-- no more kinds than entries, whatever the test
pub kinds_bound : {K : Type 0} (same : K → K → Bool) (es : List (Entry K)) → kinds same es ≤ length es
unfolding kinds fresh
kinds_bound same [] = omega arith
kinds_bound same (e ∷ es) = go (has_kind same e.kind es) (kinds_bound same es)
  where
    go : (b : Bool) → kinds same es ≤ length es → elim b [ true ↦ 0 | false ↦ 1 ] + kinds same es ≤ suc (length es)
    go true h = omega arith
    go false h = omega arith

-- the kinds that entries have
abbrev pub kinds_in : {K : Type 0} → List (Entry K) → List K
kinds_in = map (λ e. e.kind)

module _ {K : Type 0} where
  middle_out : (ds : List (Entry K)) (e : Entry K) (bs : List (Entry K)) {k : K} → k ∈ kinds_in (ds ++ (e ∷ bs)) → k ∈ kinds_in (e ∷ (ds ++ bs))
  middle_out [] e bs m = m
  middle_out (a ∷ ds) e bs m =
      ⊎_elim (λ p. there (here p)) (λ n. ⊎_elim (λ p. here p) (λ j. there (there j)) (cons-cases (middle_out ds e bs n))) (cons-cases m)

  middle_in : (ds : List (Entry K)) (e : Entry K) (bs : List (Entry K)) {k : K} → k ∈ kinds_in (e ∷ (ds ++ bs)) → k ∈ kinds_in (ds ++ (e ∷ bs))
  middle_in [] e bs m = m
  middle_in (a ∷ ds) e bs m =
      ⊎_elim (λ p. there (middle_in ds e bs (here p))) (λ n. ⊎_elim (λ p. here p) (λ j. there (middle_in ds e bs (there j))) (cons-cases n)) (cons-cases m)

-- the test tells kinds apart
pub record Tells {K : Type 0} (same : K → K → Bool) : Type 0 where
  pub test : (k l : K) → Reflects (k ≡ l) (same k l)

module _ {K : Type 0} {same : K → K → Bool} (tells : Tells same) where
  -- the test finds a kind exactly where it is
  pub has_reflects : (k : K) (es : List (Entry K)) → Reflects (k ∈ kinds_in es) (has_kind same k es)
  unfolding has_kind
  has_reflects k [] = not-in-nil
  has_reflects k (e ∷ es) = go (same k e.kind) (tells.test k e.kind) (has_kind same k es) (has_reflects k es)
    where
      go : (b : Bool) → Reflects (k ≡ e.kind) b → (c : Bool) → Reflects (k ∈ kinds_in es) c → Reflects (k ∈ kinds_in (e ∷ es)) (elim b [ true ↦ true | false ↦ c ])
      go true p c q = here p
      go false p true q = there q
      go false p false q = λ m. ⊎_elim p q (cons-cases m)

  fresh_cases : (P : ℕ → Type 0) (k : K) (es : List (Entry K)) → (k ∈ kinds_in es → P 0) → ((k ∈ kinds_in es → ⊥) → P 1) → P (fresh same k es)
  unfolding fresh
  fresh_cases P k es old new = go (has_kind same k es) (has_reflects k es)
    where
      go : (b : Bool) → Reflects (k ∈ kinds_in es) b → P (elim b [ true ↦ 0 | false ↦ 1 ])
      go true m = old m
      go false m = new m

  pub fresh_old : (k : K) (es : List (Entry K)) → k ∈ kinds_in es → fresh same k es ≡ 0
  fresh_old k es m = fresh_cases (λ n. n ≡ 0) k es (λ _. refl) (λ h. absurd (h m))

  pub fresh_new : (k : K) (es : List (Entry K)) → (k ∈ kinds_in es → ⊥) → fresh same k es ≡ 1
  fresh_new k es h = fresh_cases (λ n. n ≡ 1) k es (λ m. absurd (h m)) (λ _. refl)

  -- only the kinds count
  fresh_as : (k : K) (ds es : List (Entry K)) → (k ∈ kinds_in ds → k ∈ kinds_in es) → (k ∈ kinds_in es → k ∈ kinds_in ds) → fresh same k ds ≡ fresh same k es
  fresh_as k ds es f g = fresh_cases (λ n. n ≡ fresh same k es) k ds (λ m. sym (fresh_old k es (f m))) (λ h. sym (fresh_new k es (λ m. h (g m))))

  -- two entries in either order
  exchange : (a e : Entry K) (es : List (Entry K))
      → fresh same a.kind (e ∷ es) + fresh same e.kind es ≡ fresh same e.kind (a ∷ es) + fresh same a.kind es
  exchange a e es = go (same a.kind e.kind) (tells.test a.kind e.kind)
    where
      go : (b : Bool) → Reflects (a.kind ≡ e.kind) b
          → fresh same a.kind (e ∷ es) + fresh same e.kind es ≡ fresh same e.kind (a ∷ es) + fresh same a.kind es
      go true p =
          let old : fresh same a.kind (e ∷ es) ≡ 0 = fresh_old a.kind (e ∷ es) (here p) in
          let old' : fresh same e.kind (a ∷ es) ≡ 0 = fresh_old e.kind (a ∷ es) (here (sym p)) in
          rw (old, old', p)
      go false p =
          let f : fresh same a.kind (e ∷ es) ≡ fresh same a.kind es = fresh_as a.kind (e ∷ es) es (λ m. ⊎_elim (λ q. absurd (p q)) (λ j. j) (cons-cases m)) (λ m. there m) in
          let g : fresh same e.kind (a ∷ es) ≡ fresh same e.kind es = fresh_as e.kind (a ∷ es) es (λ m. ⊎_elim (λ q. absurd (p (sym q))) (λ j. j) (cons-cases m)) (λ m. there m) in
          omega (arith, f, g)

  -- an entry counts the same in any place
  pub kinds_middle : (ds : List (Entry K)) (e : Entry K) (bs : List (Entry K)) → kinds same (ds ++ (e ∷ bs)) ≡ fresh same e.kind (ds ++ bs) + kinds same (ds ++ bs)
  unfolding kinds
  kinds_middle [] e bs = refl
  kinds_middle (a ∷ ds) e bs =
      let f : fresh same a.kind (ds ++ (e ∷ bs)) ≡ fresh same a.kind (e ∷ (ds ++ bs)) = fresh_as a.kind (ds ++ (e ∷ bs)) (e ∷ (ds ++ bs)) (middle_out ds e bs) (middle_in ds e bs) in
      omega (arith, f, kinds_middle ds e bs, exchange a e (ds ++ bs))

  -- the different kinds that entries have
  pub record Different (es : List (Entry K)) (ks : List K) : Type 0 where
    pub distinct : Distinct ks
    pub all : (k : K) → (k ∈ ks) ↔ (k ∈ kinds_in es)

  -- there are such, as many as are counted
  pub different : (es : List (Entry K)) → (ks : List K) × Different es ks × (length ks ≡ kinds same es)
  unfolding kinds
  different [] = ([], record { distinct = none; all = λ k. (λ m. m, λ m. m) }, refl)
  different (e ∷ es) = go (different es)
    where
      go : (ks : List K) × Different es ks × (length ks ≡ kinds same es) → (ks : List K) × Different (e ∷ es) ks × (length ks ≡ fresh same e.kind es + kinds same es)
      go (ks, D, n) = go' (has_kind same e.kind es) (has_reflects e.kind es)
        where
          go' : (b : Bool) → Reflects (e.kind ∈ kinds_in es) b → (ks : List K) × Different (e ∷ es) ks × (length ks ≡ fresh same e.kind es + kinds same es)
          go' true m = (
            ks,
            record {
              distinct = D.distinct;
              all = λ k. (λ i. there ((D.all k).0 i), λ i. ⊎_elim (λ p. (D.all k).1 (in-cast p m)) (D.all k).1 (cons-cases i));
            },
            omega (arith, fresh_old e.kind es m),
          )
          go' false h = (
            e.kind ∷ ks,
            record {
              distinct = more (λ i. h ((D.all e.kind).0 i)) D.distinct;
              all = λ k. (
                λ i. ⊎_elim (λ p. here p) (λ j. there ((D.all k).0 j)) (cons-cases i),
                λ i. ⊎_elim (λ p. here p) (λ j. there ((D.all k).1 j)) (cons-cases i),
              );
            },
            omega (arith, fresh_new e.kind es h),
          )

  -- the count of kinds is how many different ones there are
  pub kinds_counted : (es : List (Entry K)) (ks : List K) → Different es ks → kinds same es ≡ length ks
  kinds_counted es ks D =
      let (ls, E, n) = different es in
      omega (
        arith,
        n,
        distinct_length D.distinct ls (λ k i. (E.all k).1 ((D.all k).0 i)),
        distinct_length E.distinct ks (λ k i. (D.all k).1 ((E.all k).0 i)),
      )
