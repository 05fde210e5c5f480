-- Two sorted lists merge into one by taking the lesser head again and again.
use Rattle.std.specs.Prelude.{◌≡◌, true, false, T, List, [], ◌∷◌, ◌++◌, refl}
use Rattle.std.proofs.Common.{sym, ◌∙◌, ap, true≢false, ⊎_elim}
use mathlib.Core.List.Permᴰ
use Rattle.std.proofs.Math.Seq.{append_snoc}
use Rattle.terms.specs.Lists.{◌∈◌, here, append_cases}
use Rattle.terms.specs.Compare.{Ordering}
use Rattle.terms.specs.Sort.{kept, insert, sort, before, Below, Sorted}
use Rattle.terms.specs.Theory.Order.{IsOrder, flip_gt, cases}
use Rattle.terms.specs.Theory.Sorted.{insert_below, sorted_least}
use Rattle.terms.specs.Theory.Sorting.{sort_fold, sort_of_permutation}
use Rattle.terms.specs.Theory.SortMembers.{sort_member}
use Rattle.words.specs.Sort.{first_next}

module _ {A : Type 0} {o : A → A → Ordering} (O : IsOrder o) where
  -- an item that may stand before all others comes first
  least_first : (x : A) (ys : List A) → ((z : A) → z ∈ ys → T (before kept (o x z))) → sort kept o (x ∷ ys) ≡ x ∷ sort kept o ys
  least_first x ys f =
      sort_fold kept O (x ∷ ys)
      ∙ ap (insert kept o x) (sym (sort_fold kept O ys))
      ∙ insert_below kept o (sort kept o ys) (below (sort kept o ys) (λ z m. f z (sort_member kept o ys m)))
    where
      below : (zs : List A) → ((z : A) → z ∈ zs → T (before kept (o x z))) → Below kept o x zs
      below [] f = tt
      below (z ∷ zs) f = f z (here refl)

  pub first_below : (x : A) (xs ys : List A) → first_next o (x ∷ xs) ys ≡ true → Below kept o x ys
  unfolding first_next
  first_below x xs [] e = tt
  first_below x xs (y ∷ ys) e = rw e tt

  pub second_below : (xs : List A) (y : A) (ys : List A) → first_next o xs (y ∷ ys) ≡ false → Below kept o y xs
  unfolding first_next
  second_below [] y ys e = tt
  second_below (x ∷ xs) y ys e =
      cases (o x y) (λ d. absurd (true≢false (rw d at e))) (λ d. absurd (true≢false (rw d at e))) (λ d. rw (flip_gt O d) tt)

  first_goes : (x : A) (xs ys : List A) → first_next o (x ∷ xs) ys ≡ true → Sorted kept o (x ∷ xs) → Sorted kept o ys
      → sort kept o ((x ∷ xs) ++ ys) ≡ x ∷ sort kept o (xs ++ ys)
  first_goes x xs ys e s t =
      least_first x (xs ++ ys)
      (λ z m. ⊎_elim (sorted_least kept O x xs s.0 s.1) (sorted_least kept O x ys (first_below x xs ys e) t) (append_cases xs m))

  second_goes : (xs : List A) (y : A) (ys : List A) → first_next o xs (y ∷ ys) ≡ false → Sorted kept o xs → Sorted kept o (y ∷ ys)
      → sort kept o (xs ++ (y ∷ ys)) ≡ y ∷ sort kept o (xs ++ ys)
  second_goes xs y ys e s t =
      sort_of_permutation kept O (Permᴰ.middle y xs ys)
      ∙ least_first y (xs ++ ys)
      (λ z m. ⊎_elim (sorted_least kept O y xs (second_below xs y ys e) s) (sorted_least kept O y ys t.0 t.1) (append_cases xs m))

-- zs are merged already, xs and ys are left, and all is what it comes to
pub record Merging {A : Type 0} (o : A → A → Ordering) (all zs xs ys : List A) : Type 0 where
  pub first : Sorted kept o xs
  pub second : Sorted kept o ys
  pub is : all ≡ zs ++ sort kept o (xs ++ ys)

module _ {A : Type 0} {o : A → A → Ordering} (O : IsOrder o) {all zs : List A} where
  pub first_taken : {x : A} {xs ys : List A} → Merging o all zs (x ∷ xs) ys → first_next o (x ∷ xs) ys ≡ true → Merging o all (zs ++ (x ∷ [])) xs ys
  first_taken {x} {xs} {ys} m e =
      record {
        first = m.first.1;
        second = m.second;
        is = m.is ∙ ap (zs ++◌) (first_goes O x xs ys e m.first m.second) ∙ sym (append_snoc zs x (sort kept o (xs ++ ys)));
      }

  pub second_taken : {y : A} {xs ys : List A} → Merging o all zs xs (y ∷ ys) → first_next o xs (y ∷ ys) ≡ false → Merging o all (zs ++ (y ∷ [])) xs ys
  second_taken {y} {xs} {ys} m e =
      record {
        first = m.first;
        second = m.second.1;
        is = m.is ∙ ap (zs ++◌) (second_goes O xs y ys e m.first m.second) ∙ sym (append_snoc zs y (sort kept o (xs ++ ys)));
      }
