-- Equations get the same canonical equation exactly when a one-to-one renaming of v letters turns one into the other; renamed again, it stays.
use Rattle.std.specs.Prelude.{◌≡◌, ℕ, suc, ◌<◌, ◌≤◌, true, false, T, ◌⊎◌, ◌↔◌, List, ◌++◌, length, ◌≢◌, refl}
use Rattle.std.proofs.Common.{arith, lt-ltb, le-ltb, sym, ◌∙◌, ap, ap₂, inl, inr, ⊎_elim, leb→le, le→leb}
use mathlib.Core.List.{flatten}
use Rattle.terms.specs.Lists.{◌∈◌, in_left, in_right, append_cases}
use Rattle.terms.specs.Compare.{Ordering}
use Rattle.terms.specs.Equation.{Equation, orient}
use Rattle.terms.specs.Term.{Term, order, size}
use Rattle.terms.specs.Letters.{letters, FIXED, is_free, variables}
use Rattle.terms.specs.Theory.Order.{below?}
use Rattle.terms.specs.Theory.Distinct.{distinct_length}
use Rattle.terms.specs.Theory.Letters.{rising_distinct}
use Rattle.terms.specs.Theory.TermOrder.{term_order}
use Rattle.words.specs.Words.{Word, words, order_lists}
use Rattle.words.specs.Rename.{count_from, rename_term, rename_words, canonical_terms, canonical_words}
use Rattle.words.specs.Bijection.{Bijection, IsLeast}
use Rattle.words.specs.Shared.{RenamesVariables, SameFixed, Turns, Alike, TurnsWords, AlikeWords}
use Rattle.words.specs.Theory.Order.{list_order}
use Rattle.words.specs.Theory.Bijections.{count_from_members, count_from_length}
use Rattle.words.specs.Theory.Renaming.{names_of, names_members, canonical_terms_least, canonical_words_least}
use Rattle.words.specs.Theory.Names.{Renaming, Listing}
use Rattle.words.specs.Theory.Alike.{Renames, Turned, Canonical, alike_exactly, canonical_again, canonical_turned, canonical_apart, canonical_letters, canonical_as_many}
use Rattle.words.specs.Theory.Renames.{size_renamed, rename_term_stays, terms_rename, words_rename, words_renamed, words_normal, words_letters}

-- each of two cases
either : {A B C D : Type 0} → (A → C) → (B → D) → A ⊎ B → C ⊎ D
either f g = ⊎_elim (λ a. inl (f a)) (λ b. inr (g b))

-- v letters may be renamed, and there are enough of them

free_true : (n : ℕ) → T (is_free n) → n < FIXED
free_true n = leb→le (suc n) FIXED

not_free : (n : ℕ) → (T (is_free n) → ⊥) → FIXED ≤ n
not_free n fixed = ⊎_elim (λ (h : n < FIXED). absurd (fixed (le→leb (suc n) FIXED h))) (λ h. h) (below? n FIXED)

fixed_not_free : (n : ℕ) → FIXED ≤ n → T (is_free n) → ⊥
fixed_not_free n h t = omega (arith, free_true n t)

few_names : (ns : List ℕ) → length (names_of ns) ≤ FIXED
few_names ns =
    omega (
      arith,
      count_from_length FIXED 0,
      distinct_length (rising_distinct (variables ns)) (count_from FIXED 0)
          (λ n i. (count_from_members FIXED 0 n).1 (omega arith, omega (arith, ((names_members ns n).0 i).1))),
    )

listing : Listing is_free names_of
listing =
    record {
      distinct = λ ns. rising_distinct (variables ns);
      members =
          λ ns n. (
            λ i. let (j, h) = (names_members ns n).0 i in (j, le→leb (suc n) FIXED h),
            λ (i, t). (names_members ns n).1 (i, free_true n t),
          );
      enough = λ ns i h. le→leb (suc i) FIXED (omega (arith, few_names ns));
    }

-- a renaming that keeps all c letters, also those that do not occur
kept_beside : (ℕ → ℕ) → ℕ → ℕ
kept_beside f n = elim (is_free n) [ true ↦ f n | false ↦ n ]

module _ (f : ℕ → ℕ) (n : ℕ) where
  beside_free : n < FIXED → kept_beside f n ≡ f n
  unfolding kept_beside
  beside_free h = rw (lt-ltb n FIXED h, kept_beside)

  beside_fixed : FIXED ≤ n → kept_beside f n ≡ n
  unfolding kept_beside
  beside_fixed h = rw (le-ltb n FIXED h, kept_beside)

bijection_agree : {names : List ℕ} {f g : ℕ → ℕ} → ((n : ℕ) → n ∈ names → g n ≡ f n) → Bijection names f → Bijection names g
bijection_agree agree b =
    record {
      below = λ n i. rw (agree n i) (b.below n i);
      one_to_one = λ m n i j e. b.one_to_one m n i j (sym (agree m i) ∙ e ∙ agree n j);
      onto = λ i h. let (n, j, e) = b.onto i h in (n, j, agree n j ∙ e);
    }

-- the least over all bijections, as the theory on renamings asks for it
module _ {A : Type 0} {o : A → A → Ordering} {rename : (ℕ → ℕ) → A → A} {has : A → List ℕ} {Ok : A → Type 0} (R : Renames rename has Ok)
    {canonical : A → A → Equation A} (least : (s t : A) → IsLeast o rename (names_of (has s ++ has t)) s t (canonical s t)) where
  by_least : Canonical o rename has is_free names_of canonical
  by_least =
      record {
        attained =
            λ s t.
            let (f, b, k, e) = (least s t).attained in
            (f, record { bijection = b; keeps = λ n i fixed. k n (not_free n fixed) }, e);
        least =
            λ s t f b.
            let both = has s ++ has t in
            let g = kept_beside f in
            let agree : (n : ℕ) → n ∈ both → g n ≡ f n =
            λ n i. ⊎_elim (beside_free f n) (λ h. beside_fixed f n h ∙ sym (b.keeps n i (fixed_not_free n h))) (below? n FIXED) in
            rw (← ap₂ (orient o) (R.depends s g f (λ n i. agree n (in_left (has t) i))) (R.depends t g f (λ n i. agree n (in_right (has s) i))))
            ((least s t).least g (bijection_agree (λ n i. beside_free f n ((names_members both n).0 i).1) b.bijection) (beside_fixed f));
      }

terms_canonical : Canonical order rename_term letters is_free names_of canonical_terms
terms_canonical = by_least terms_rename canonical_terms_least

words_canonical : Canonical order_lists rename_words flatten is_free names_of canonical_words
words_canonical = by_least words_rename canonical_words_least

-- the two ways to say that a renaming turns one into another

renaming : {ns : List ℕ} {new : ℕ → ℕ} → RenamesVariables ns new → Renaming is_free ns new
renaming {new = new} r =
    record {
      one_to_one = r.one_to_one;
      frees = λ n i t. le→leb (suc (new n)) FIXED (r.free n i (free_true n t));
      keeps = λ n i fixed. r.kept n i (not_free n fixed);
    }

renames : {ns : List ℕ} {new : ℕ → ℕ} → Renaming is_free ns new → RenamesVariables ns new
renames {new = new} r =
    record {
      one_to_one = r.one_to_one;
      free = λ n i l. free_true (new n) (r.frees n i (le→leb (suc n) FIXED l));
      kept = λ n i l. r.keeps n i (fixed_not_free n l);
    }

turned : {s t u v : Term} → Turns s t u v → Turned rename_term letters is_free s t u v
turned h = record { new = h.new; renaming = renaming h.renames; left = h.left; right = h.right }

turns : {s t u v : Term} → Turned rename_term letters is_free s t u v → Turns s t u v
turns h = record { new = h.new; renames = renames h.renaming; left = h.left; right = h.right }

turned_words : {us vs ps qs : List Word} → TurnsWords us vs ps qs → Turned rename_words flatten is_free us vs ps qs
turned_words h = record { new = h.new; renaming = renaming h.renames; left = h.left; right = h.right }

turns_words : {us vs ps qs : List Word} → Turned rename_words flatten is_free us vs ps qs → TurnsWords us vs ps qs
turns_words h = record { new = h.new; renames = renames h.renaming; left = h.left; right = h.right }

-- two equations share a name exactly when a one-to-one renaming of v letters turns one into the other, with or without exchanging sides
pub shared_name : (s t u v : Term) → canonical_terms s t ≡ canonical_terms u v ↔ Alike s t u v
shared_name s t u v =
    let (only, all) = alike_exactly terms_rename is_free term_order listing terms_canonical {s = s} {t = t} {u = u} {v = v} tt tt tt tt in
    (λ e. either turns turns (only e), λ h. all (either turned turned h))

-- a renamed equation is one of those that share its name
pub renamed_alike : (s t : Term) → Alike s t (canonical_terms s t).left (canonical_terms s t).right
renamed_alike s t = either turns turns (canonical_turned terms_rename is_free term_order listing terms_canonical s t)

-- renaming a renamed equation gives it back
pub renamed_again : (s t : Term) → canonical_terms (canonical_terms s t).left (canonical_terms s t).right ≡ canonical_terms s t
renamed_again s t = canonical_again terms_rename is_free term_order listing terms_canonical {s = s} {t = t} tt tt

-- what a renamed equation keeps: sides that differ, their sizes, and how many v letters there are, which are small numbers; c letters stay

pub renamed_apart : (s t : Term) → (s ≢ t) → (canonical_terms s t).left ≢ (canonical_terms s t).right
renamed_apart s t = canonical_apart terms_rename is_free term_order listing terms_canonical {s = s} {t = t} tt tt

pub renamed_letters : (s t : Term) (n : ℕ) → n ∈ letters (canonical_terms s t).left ++ letters (canonical_terms s t).right
    → (n < length (names_of (letters s ++ letters t))) ⊎ (n ∈ letters s ++ letters t)
renamed_letters s t n i = ⊎_elim inl (λ (j, _). inr j) (canonical_letters terms_rename is_free term_order listing terms_canonical s t n i)

pub renamed_as_many : (s t : Term)
    → length (names_of (letters s ++ letters t)) ≡ length (names_of (letters (canonical_terms s t).left ++ letters (canonical_terms s t).right))
renamed_as_many = canonical_as_many terms_rename is_free term_order listing terms_canonical

turns_sizes : {s t u v : Term} → Turns s t u v → (size u ≡ size s) × (size v ≡ size t)
turns_sizes {s} {t} h = (ap size (sym h.left) ∙ size_renamed h.new s, ap size (sym h.right) ∙ size_renamed h.new t)

pub alike_sizes : {s t u v : Term} → Alike s t u v → (k : ℕ) → size s ≤ k → size t ≤ k → (size u ≤ k) × (size v ≤ k)
alike_sizes (inl h) k a b = let (p, q) = turns_sizes h in (omega arith, omega arith)
alike_sizes (inr h) k a b = let (p, q) = turns_sizes h in (omega arith, omega arith)

-- the same of the words of two sides

pub shared_words : (s t u v : Term)
    → canonical_words (words s) (words t) ≡ canonical_words (words u) (words v) ↔ AlikeWords (words s) (words t) (words u) (words v)
shared_words s t u v =
    let (only, all) = alike_exactly words_rename is_free list_order listing words_canonical (words_normal s) (words_normal t) (words_normal u) (words_normal v) in
    (λ e. either turns_words turns_words (only e), λ h. all (either turned_words turned_words h))

pub renamed_words_again : (s t : Term) → let e = canonical_words (words s) (words t) in canonical_words e.left e.right ≡ e
renamed_words_again s t = canonical_again words_rename is_free list_order listing words_canonical (words_normal s) (words_normal t)

-- lists that agree are turned into lists that agree

turns_agree : {us vs ps qs : List Word} → TurnsWords us vs ps qs → us ≡ vs → ps ≡ qs
turns_agree h e = sym h.left ∙ ap (rename_words h.new) e ∙ h.right

pub alike_agree : {us vs ps qs : List Word} → AlikeWords us vs ps qs → us ≡ vs → ps ≡ qs
alike_agree (inl h) e = turns_agree h e
alike_agree (inr h) e = sym (turns_agree h e)

-- equations that share a name have words that share a name

words_turn : {s t u v : Term} → Turns s t u v → TurnsWords (words s) (words t) (words u) (words v)
words_turn {s} {t} h =
    record {
      new = h.new;
      renames = record {
        one_to_one = λ m n i j. h.renames.one_to_one m n (of_words m i) (of_words n j);
        free = λ n i. h.renames.free n (of_words n i);
        kept = λ n i. h.renames.kept n (of_words n i);
      };
      left = sym (words_renamed h.new s) ∙ ap words h.left;
      right = sym (words_renamed h.new t) ∙ ap words h.right;
    }
  where
    of_words : (n : ℕ) → n ∈ flatten (words s) ++ flatten (words t) → n ∈ letters s ++ letters t
    of_words n i = ⊎_elim (λ j. in_left (letters t) (words_letters s n j)) (λ j. in_right (letters s) (words_letters t n j)) (append_cases (flatten (words s)) i)

pub alike_words : {s t u v : Term} → Alike s t u v → AlikeWords (words s) (words t) (words u) (words v)
alike_words h = either words_turn words_turn h

-- an equation shares its own name, and names are shared both ways

pub turns_self : (s t : Term) → Turns s t s t
turns_self s t = record { new = λ n. n; renames = record { one_to_one = λ m n i j e. e; free = λ n i h. h; kept = λ n i h. refl }; left = rename_term_stays s; right = rename_term_stays t }

pub alike_back : {s t u v : Term} → Alike s t u v → Alike u v s t
alike_back {s} {t} {u} {v} h = (shared_name u v s t).0 (sym ((shared_name s t u v).1 h))

pub alike_words_back : (s t u v : Term) → AlikeWords (words s) (words t) (words u) (words v) → AlikeWords (words u) (words v) (words s) (words t)
alike_words_back s t u v h = (shared_words u v s t).0 (sym ((shared_words s t u v).1 h))

-- c letters stay

module _ {A : Type 0} {rename : (ℕ → ℕ) → A → A} {has : A → List ℕ} {Ok : A → Type 0} (R : Renames rename has Ok) {s t : A} {new : ℕ → ℕ}
    (r : RenamesVariables (has s ++ has t) new) where
  still_there : {u v : A} → rename new s ≡ u → rename new t ≡ v → (n : ℕ) → FIXED ≤ n → n ∈ has s ++ has t → (n ∈ has u ++ has v) × (n ∈ has v ++ has u)
  still_there {u} {v} left right n h i =
      let stays = r.kept n i h in
      ⊎_elim
      (λ j. let k = rw left at ((R.letters new s n).1 (n, j, stays)) in (in_left (has v) k, in_right (has v) k))
      (λ j. let k = rw right at ((R.letters new t n).1 (n, j, stays)) in (in_right (has u) k, in_left (has u) k))
      (append_cases (has s) i)

alike_there : {s t u v : Term} → Alike s t u v → (n : ℕ) → FIXED ≤ n → n ∈ letters s ++ letters t → n ∈ letters u ++ letters v
alike_there (inl h) n k i = (still_there terms_rename h.renames h.left h.right n k i).0
alike_there (inr h) n k i = (still_there terms_rename h.renames h.left h.right n k i).1

pub alike_fixed : {s t u v : Term} → Alike s t u v → SameFixed (letters s ++ letters t) (letters u ++ letters v)
alike_fixed h n k = (alike_there h n k, alike_there (alike_back h) n k)

words_there : {us vs ps qs : List Word} → AlikeWords us vs ps qs → (n : ℕ) → FIXED ≤ n → n ∈ flatten us ++ flatten vs → n ∈ flatten ps ++ flatten qs
words_there (inl h) n k i = (still_there words_rename h.renames h.left h.right n k i).0
words_there (inr h) n k i = (still_there words_rename h.renames h.left h.right n k i).1

pub alike_words_fixed : (s t u v : Term) → AlikeWords (words s) (words t) (words u) (words v)
    → SameFixed (flatten (words s) ++ flatten (words t)) (flatten (words u) ++ flatten (words v))
alike_words_fixed s t u v h n k = (words_there h n k, words_there (alike_words_back s t u v h) n k)

-- so a renamed equation has the same c letters
pub renamed_fixed : (s t : Term) → SameFixed (letters s ++ letters t) (letters (canonical_terms s t).left ++ letters (canonical_terms s t).right)
renamed_fixed s t = alike_fixed (renamed_alike s t)
