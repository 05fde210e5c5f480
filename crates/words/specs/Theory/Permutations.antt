-- `permutations` lists the rearrangements of a list without repeats, and only those.
use Rattle.std.specs.Prelude.{◌≡◌, ℕ, ◌⊎◌, ◌↔◌, List, [], ◌∷◌}
use Rattle.std.proofs.Math.Path.{refl}
use Rattle.std.proofs.Common.{sym, ◌∙◌, ap, inl, inr}
use Rattle.std.proofs.Math.Logic.{⊎_elim}
use mathlib.Core.List.{flat_map}
use Rattle.terms.specs.Lists.{◌∈◌, here, there, not-in-nil, cons-cases, append_cases, only_one, in_left, in_right, in-cast, in_map, of_map, Distinct, none, more}
use Rattle.words.specs.Rename.{everywhere, permutations}

-- the same members, each once
pub record Rearranged (ns ps : List ℕ) : Type 0 where
  pub distinct : Distinct ps
  pub members : (n : ℕ) → n ∈ ps ↔ n ∈ ns

-- ps is ms with n put in at one place
data Inserted (n : ℕ) : (ms ps : List ℕ) → Type 0 where
  first : {m : ℕ} {ms : List ℕ} → m ≡ n → Inserted n ms (m ∷ ms)
  later : {l m : ℕ} {ms ps : List ℕ} → l ≡ m → Inserted n ms ps → Inserted n (m ∷ ms) (l ∷ ps)

inserted_members : {n : ℕ} {ms ps : List ℕ} → Inserted n ms ps → (x : ℕ) → x ∈ ps ↔ ((x ≡ n) ⊎ x ∈ ms)
inserted_members (first e) x = (λ k. ⊎_elim (λ d. inl (d ∙ e)) inr (cons-cases k), ⊎_elim (λ d. here (d ∙ sym e)) there)
inserted_members (later e i) x =
    let (only, all) = inserted_members i x in (
      λ k. ⊎_elim (λ d. inr (here (d ∙ e))) (λ j. ⊎_elim inl (λ h. inr (there h)) (only j)) (cons-cases k),
      ⊎_elim (λ d. there (all (inl d))) (λ k. ⊎_elim (λ d. here (d ∙ sym e)) (λ j. there (all (inr j))) (cons-cases k)),
    )

inserted_distinct : {n : ℕ} {ms ps : List ℕ} → Inserted n ms ps → (n ∈ ms → ⊥) → Distinct ms → Distinct ps
inserted_distinct (first e) new d = more (λ k. new (in-cast (sym e) k)) d
inserted_distinct (later {l = l} e i) new (more h d) =
    more
    (λ k. ⊎_elim (λ p. new (here (sym p ∙ e))) (λ j. h (in-cast (sym e) j)) ((inserted_members i l).0 k))
    (inserted_distinct i (λ k. new (there k)) d)

distinct_inserted : {n : ℕ} {ms ps : List ℕ} → Inserted n ms ps → Distinct ps → (n ∈ ms → ⊥) × Distinct ms
distinct_inserted (first e) (more h d) = (λ k. h (in-cast e k), d)
distinct_inserted (later {m = m} e i) (more h d) =
    let (new, rest) = distinct_inserted i d in (
      λ k. ⊎_elim (λ p. h ((inserted_members i _).1 (inl (e ∙ sym p)))) new (cons-cases k),
      more (λ k. h (in-cast e ((inserted_members i m).1 (inr k)))) rest,
    )

taken_out : {n : ℕ} {ps : List ℕ} → n ∈ ps → (ms : List ℕ) × Inserted n ms ps
taken_out (here {xs = ms} e) = (ms, first (sym e))
taken_out (there {x = m} k) = let (ms, i) = taken_out k in (m ∷ ms, later refl i)

-- `everywhere` lists the lists with one more item

everywhere_inserted : (n : ℕ) (ms : List ℕ) {ps : List ℕ} → ps ∈ everywhere n ms → Inserted n ms ps
unfolding everywhere
everywhere_inserted n [] k = rw (only_one k) (first refl)
everywhere_inserted n (m ∷ ms) k =
    ⊎_elim (λ e. rw e (first refl))
    (λ j. let (qs, i, e) = of_map (λ p. m ∷ p) (everywhere n ms) j in rw (← e) (later refl (everywhere_inserted n ms i)))
    (cons-cases k)

everywhere_first : (n : ℕ) (ms : List ℕ) → n ∷ ms ∈ everywhere n ms
unfolding everywhere
everywhere_first n [] = here refl
everywhere_first n (m ∷ ms) = here refl

inserted_everywhere : {n : ℕ} {ms ps : List ℕ} → Inserted n ms ps → ps ∈ everywhere n ms
unfolding everywhere
inserted_everywhere {n} (first {ms = ms} e) = in-cast (ap (λ l. l ∷ ms) e) (everywhere_first n ms)
inserted_everywhere (later {m = m} {ps = ps} e i) = in-cast (ap (λ l. l ∷ ps) e) (there (in_map (λ p. m ∷ p) (inserted_everywhere i)))

module _ {A B : Type 0} (f : A → List B) where
  in_flatMap : {x : A} {xs : List A} {y : B} → x ∈ xs → y ∈ f x → y ∈ flat_map f xs
  unfolding flat_map
  in_flatMap (here {xs = xs} e) k = in_left (flat_map f xs) (rw e at k)
  in_flatMap (there {x = z} m) k = in_right (f z) (in_flatMap m k)

  pub of_flatMap : (xs : List A) {y : B} → y ∈ flat_map f xs → (x : A) × x ∈ xs × y ∈ f x
  unfolding flat_map
  of_flatMap [] k = absurd (not-in-nil k)
  of_flatMap (x ∷ xs) {y} k = ⊎_elim (λ j. (x, here refl, j)) (λ j. let (z, m, i) = of_flatMap xs j in (z, there m, i)) (append_cases (f x) k)

-- and so `permutations` the rearrangements

listed_rearranged : {ns : List ℕ} → Distinct ns → {ps : List ℕ} → ps ∈ permutations ns → Rearranged ns ps
unfolding permutations
listed_rearranged none k = rw (only_one k) (record { distinct = none; members = λ n. (λ j. j, λ j. j) })
listed_rearranged (more {x = n} {xs = ns} h d) k =
    let (ms, j, i) = of_flatMap (everywhere n) (permutations ns) k in
    let r = listed_rearranged d j in
    let p = everywhere_inserted n ms i in
    record {
      distinct = inserted_distinct p (λ m. h ((r.members n).0 m)) r.distinct;
      members =
          λ x. (
            λ m. ⊎_elim here (λ l. there ((r.members x).0 l)) ((inserted_members p x).0 m),
            λ m. (inserted_members p x).1 (⊎_elim inl (λ l. inr ((r.members x).1 l)) (cons-cases m)),
          );
    }

rearranged_listed : {ns : List ℕ} → Distinct ns → (ps : List ℕ) → Rearranged ns ps → ps ∈ permutations ns
unfolding permutations
rearranged_listed none [] r = here refl
rearranged_listed none (p ∷ ps) r = absurd (not-in-nil ((r.members p).0 (here refl)))
rearranged_listed (more {x = n} {xs = ns} h d) ps r =
    let (ms, i) = taken_out ((r.members n).1 (here refl)) in
    let (new, rest) = distinct_inserted i r.distinct in
    let back : (x : ℕ) → x ∈ ms → x ∈ ns =
    λ x m. ⊎_elim (λ e. absurd (new (in-cast (sym e) m))) (λ l. l) (cons-cases ((r.members x).0 ((inserted_members i x).1 (inr m)))) in
    let forth : (x : ℕ) → x ∈ ns → x ∈ ms =
    λ x m. ⊎_elim (λ e. absurd (h (in-cast (sym e) m))) (λ l. l) ((inserted_members i x).0 ((r.members x).1 (there m))) in
    in_flatMap (everywhere n) (rearranged_listed d ms (record { distinct = rest; members = λ x. (back x, forth x) })) (inserted_everywhere i)

pub permutations_exact : {ns : List ℕ} → Distinct ns → (ps : List ℕ) → ps ∈ permutations ns ↔ Rearranged ns ps
permutations_exact d ps = (listed_rearranged d, rearranged_listed d ps)
