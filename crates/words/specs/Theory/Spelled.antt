-- The runs of lists of words: they are ordered as the lists are, and no longer than the slots.
use Rattle.std.specs.Prelude.{◌≡◌, ℕ, ◌*◌, ◌<◌, ◌≤◌, ◌↔◌, List, [], ◌∷◌, ◌++◌, length, refl}
use Prim.Native.Nat.compare
use Prim.Native.Nat.{compare}
use Rattle.std.proofs.Common.{arith, sym, ap, ◌∙◌, length-append}
use Rattle.std.proofs.lemmas.List.{length-map}
use Rattle.terms.specs.Compare.{then, lexicographic}
use Rattle.terms.specs.Theory.Lexicographic.{then_assoc}
use Rattle.words.specs.Words.{Word, order_words, order_lists}
use Rattle.words.specs.Spelled.{spelled_word, spelled, SLOT}
use Rattle.words.specs.Counts.{longest}
use Rattle.words.specs.Theory.Order.{list_order}

-- the numbers after two words decide only if the words are equal
word_then : (u v : Word) (xs ys : List ℕ)
    → lexicographic compare (spelled_word u ++ xs) (spelled_word v ++ ys) ≡ then (order_words u v) (lexicographic compare xs ys)
unfolding lexicographic
word_then [] [] xs ys = refl
word_then [] (n ∷ v) xs ys = rw (compare.zero-suc n)
word_then (m ∷ u) [] xs ys = rw (compare.suc-zero m)
word_then (m ∷ u) (n ∷ v) xs ys = rw (compare.suc-suc m n, word_then u v xs ys, then_assoc)

pub spelled_order : (us vs : List Word) → lexicographic compare (spelled us) (spelled vs) ≡ order_lists us vs
unfolding spelled lexicographic
spelled_order [] [] = refl
spelled_order [] ([] ∷ vs) = refl
spelled_order [] ((n ∷ v) ∷ vs) = refl
spelled_order ([] ∷ us) [] = refl
spelled_order ((m ∷ u) ∷ us) [] = refl
spelled_order (u ∷ us) (v ∷ vs) = word_then u v (spelled us) (spelled vs) ∙ ap (then (order_words u v)) (spelled_order us vs)

-- so the runs are equal exactly when the lists are
pub spelled_equal : (us vs : List Word) → spelled us ≡ spelled vs ↔ us ≡ vs
spelled_equal us vs = (
  λ e. list_order.tie (sym (spelled_order us vs) ∙ rw e (spelled_order vs vs ∙ list_order.reflexive vs)),
  λ e. ap spelled e,
)

pub spelled_length : (us : List Word) → longest us < SLOT → length (spelled us) ≤ SLOT * length us
unfolding spelled
spelled_length [] h = omega arith
spelled_length (u ∷ us) h = simp (length-append, length-map) (omega (arith, spelled_length us (omega arith)))
