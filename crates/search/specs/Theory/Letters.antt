-- A line whose law has each letter in the side replaced brings in no letter.
use Rattle.std.specs.Prelude.{ℕ, refl, List}
use Rattle.std.proofs.Common.{⊎_elim}
use Rattle.terms.specs.Lists.{◌∈◌, here, not-in-nil, only_one, cons-cases, append_cases, in_left, in_right}
use Rattle.terms.specs.Term.{Term, letter, zero, one, add, mul, subst}
use Rattle.terms.specs.Letters.{letters}
use Rattle.search.specs.Law.{Law}
use Rattle.search.specs.Line.{Line, Limits}
use Rattle.search.specs.Path.{Usable, Searchable, Path, end, step}
use Rattle.search.specs.Theory.Rewrite.{Covers}
use Rattle.search.specs.Theory.Replace.{Congruence, replace_related}

covers_parts : Congruence Covers
unfolding letters
covers_parts =
    record {
      reflexive = λ t n m. m;
      add = λ s t u v f g n m. ⊎_elim (λ i. in_left (letters t) (f n i)) (λ i. in_right (letters s) (g n i)) (append_cases (letters u) m);
      mul = λ s t u v f g n m. ⊎_elim (λ i. in_left (letters t) (f n i)) (λ i. in_right (letters s) (g n i)) (append_cases (letters u) m);
    }

-- a letter of a term that was put together comes from one that was put in
abbrev From : (ℕ → Term) → Term → ℕ → Type 0
From σ p n = (m : ℕ) × m ∈ letters p × n ∈ letters (σ m)

subst_from : (σ : ℕ → Term) (p : Term) {n : ℕ} → n ∈ letters (subst σ p) → From σ p n
unfolding letters subst
subst_from σ (letter k) i = (k, here refl, i)
subst_from σ zero i = absurd (not-in-nil i)
subst_from σ one i = absurd (not-in-nil i)
subst_from σ (add p q) i =
    ⊎_elim (λ j. let (m, k, h) = subst_from σ p j in (m, in_left (letters q) k, h)) (λ j. let (m, k, h) = subst_from σ q j in (m, in_right (letters p) k, h))
    (append_cases (letters (subst σ p)) i)
subst_from σ (mul p q) i =
    ⊎_elim (λ j. let (m, k, h) = subst_from σ p j in (m, in_left (letters q) k, h)) (λ j. let (m, k, h) = subst_from σ q j in (m, in_right (letters p) k, h))
    (append_cases (letters (subst σ p)) i)

subst_has : (σ : ℕ → Term) (p : Term) {m n : ℕ} → m ∈ letters p → n ∈ letters (σ m) → n ∈ letters (subst σ p)
unfolding letters subst
subst_has σ (letter k) i j = rw (only_one i) at j
subst_has σ zero i j = absurd (not-in-nil i)
subst_has σ one i j = absurd (not-in-nil i)
subst_has σ (add p q) i j =
    ⊎_elim (λ k. in_left (letters (subst σ q)) (subst_has σ p k j)) (λ k. in_right (letters (subst σ p)) (subst_has σ q k j)) (append_cases (letters p) i)
subst_has σ (mul p q) i j =
    ⊎_elim (λ k. in_left (letters (subst σ q)) (subst_has σ p k j)) (λ k. in_right (letters (subst σ p)) (subst_has σ q k j)) (append_cases (letters p) i)

module _ {ws : List Law} where
  usable_covers : (s : Term) (x : Line) → Usable ws s x → Covers s x.result
  usable_covers s x h =
      replace_related covers_parts x.place s _ _ x.result h.line.replaced h.line.replacement
      (λ n i. let (m, j, k) = subst_from h.line.terms _ i in subst_has h.line.terms _ (h.bound m j) k)

  -- no result of a searchable path has a letter that its start has not
  pub searchable_covers : {m : Limits} {s t : Term} {xs : List Line} → Path (Searchable ws m) s xs t → (x : Line) → x ∈ xs → Covers s x.result
  searchable_covers end x i = absurd (not-in-nil i)
  searchable_covers (step {s = s} y h path) x i =
      ⊎_elim (λ e. rw e (usable_covers s y h.usable)) (λ j n k. usable_covers s y h.usable n (searchable_covers path x j n k)) (cons-cases i)
