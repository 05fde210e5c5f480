-- The canonical equation of the words of two terms: the least over the renamings of their words before they are sorted.
use Rattle.std.proofs.Common.{◌≡◌, ℕ, ◌-◌, ◌*◌, ◌≤◌, List, ◌++◌, length, take, drop, sym, ap, ◌∙◌, arith, take_at}
use mathlib.Core.List.{flatten}
use Rattle.terms.specs.Compare.{order_numbers}
use Rattle.terms.specs.Equation.{orient}
use Rattle.terms.specs.Sort.{kept}
use Rattle.terms.specs.Term.{Term, size}
use Rattle.terms.specs.Letters.{letters, rising, FIXED, variables}
use Rattle.terms.specs.Held.{IsRun}
use Rattle.terms.specs.Promises.{ListsVariables}
use Rattle.terms.specs.Theory.Letters.{below_append}
use Rattle.std.specs.Prelude.{Option}
use Rattle.std.specs.Prelude.{Some, None}
use Rattle.words.specs.Words.{Word, order_lists, normal, words, expand}
use Rattle.words.specs.Spelled.{SLOT, spelled}
use Rattle.words.specs.Rename.{rename_words, least, canonical_words}
use Rattle.words.specs.Decoded.{renaming, factorial, least_to, both}
use Rattle.words.specs.Multiply.{MOST}
use Rattle.words.specs.Candidate.{Sides, Finds}
use Rattle.words.specs.Theory.Expand.{words_expand}
use Rattle.words.specs.WordLists.{slot_words, word_candidate, WordRoom, CanonicalWords}
use Rattle.words.specs.Theory.WordLetters.{fewer_variables, rising_sorted_words, rename_sorted_words}
use Rattle.words.proofs.Canonical.{spelled_least}
use Rattle.words.proofs.BoundedWords.{expand_bounded, Multiplied}

-- words are renamed alike before and after they are sorted
least_sorted : (names : List ℕ) (us vs : List Word)
    → both spelled (least order_lists rename_words names (normal kept us) (normal kept vs)) ≡ both spelled (least order_lists rename_words names us vs)
least_sorted names us vs =
    spelled_least names (normal kept us) (normal kept vs)
    ∙ (λ i.
    least_to order_numbers
    (λ c. orient order_numbers (spelled (rename_sorted_words (renaming names c) us i)) (spelled (rename_sorted_words (renaming names c) vs i)))
    (factorial (length names) - 1))
    ∙ sym (spelled_least names us vs)

canonical_expanded : (s t : Term)
    → both spelled (canonical_words (words s) (words t))
    ≡ both spelled (least order_lists rename_words (rising (variables (flatten (expand s) ++ flatten (expand t)))) (expand s) (expand t))
unfolding canonical_words
canonical_expanded s t =
    let us = expand s in
    let vs = expand t in
    rw (words_expand kept s, words_expand kept t, rising_sorted_words us vs) (least_sorted (rising (variables (flatten us ++ flatten vs))) us vs)

-- the v letters of the words in two lists of slots
abbrev slot_letters : (us vs : List ℕ) → List ℕ
slot_letters us vs = rising (variables (flatten (slot_words us)) ++ variables (flatten (slot_words vs)))

module _ (xs ys us vs : List ℕ) (p : Multiplied xs us) (q : Multiplied ys vs) where
  names_listed : (s t : Term) → IsRun xs s → IsRun ys t → size s ≤ 31 → size t ≤ 31
      → slot_letters us vs ≡ rising (variables (flatten (expand s) ++ flatten (expand t)))
  names_listed s t u v a b =
      rw (p.words s u a, q.words t v b, ← (below_append FIXED (flatten (expand s)) (flatten (expand t))))

  -- the promise, by what became of the v letters

  module _ {room : ℕ} {names names' : List ℕ} {l : Option ℕ} (f : ListsVariables (flatten (slot_words us)) (flatten (slot_words vs)) names l names') where
    pub too_many : {e : Sides} → length names ≡ 6 → l ≡ None → CanonicalWords xs ys room e
    too_many n d =
        record {
          exact = λ s t u v a b few c. absurd (omega (arith, (rw d at f.numbers).0, ap length (names_listed s t u v a b), fewer_variables s t));
        }

    pub all_listed : {k : ℕ} {e : Sides} → l ≡ Some k
        → Finds (WordRoom us vs room) (least_to order_numbers (word_candidate (take k names') us vs) (factorial (length (take k names')) - 1)) e
        → CanonicalWords xs ys room e
    all_listed {k} {e} d found = record { exact = exact }
      where
        exact : (s t : Term) → IsRun xs s → IsRun ys t → size s ≤ 31 → size t ≤ 31
            → length (rising (variables (letters s ++ letters t))) ≤ 6 → SLOT * MOST ≤ room
            → (e.left ≡ spelled (canonical_words (words s) (words t)).left) × (e.right ≡ spelled (canonical_words (words s) (words t)).right)
        exact s t u v a b few long =
            let fills = rw d at f.numbers in
            let names_used : take k names' ≡ rising (variables (flatten (expand s) ++ flatten (expand t))) =
            ap (take k) fills.2 ∙ take_at (slot_letters us vs) (drop k names) k (sym fills.0) ∙ names_listed s t u v a b in
            let roomy : WordRoom us vs room =
            record {
              first = rw (p.words s u a) (expand_bounded s u.fine a);
              second = rw (q.words t v b) (expand_bounded t v.fine b);
              sides = long;
            } in
            let all : e ≡ both spelled (canonical_words (words s) (words t)) =
            found.exact roomy ∙ sym (spelled_least (take k names') (slot_words us) (slot_words vs)) ∙ rw (names_used, p.words s u a, q.words t v b) (sym (canonical_expanded s t)) in
            (ap (λ (z : Sides). z.left) all, ap (λ (z : Sides). z.right) all)
