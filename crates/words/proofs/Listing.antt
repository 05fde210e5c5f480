-- Lists of words as slots in order: those of a term, and whether two are the same.
use Rattle.std.proofs.Common.{◌≡◌, ℕ, ◌+◌, ◌*◌, ◌<◌, ◌≤◌, Bool, List, [], ◌∷◌, ◌++◌, length, get_or, take, sym, ap, ap₂, ◌∙◌, add-one, zero-add, arith, length-append, take-suc, take_at}
use mathlib.Core.List.{map-append}
use Rattle.std.proofs.lemmas.List.{get_or-map}
use Rattle.std.proofs.Math.Dec.{compare_is_eq}
use Rattle.terms.specs.Sort.{kept}
use Rattle.terms.specs.Term.{Term, size}
use Rattle.terms.specs.Held.{IsRun}
use Rattle.terms.specs.Promises.{Equals}
use Rattle.terms.specs.Theory.Reflects.{Reflects, tests_agree}
use Rattle.terms.specs.Theory.Order.{tie_reflects}
use Rattle.words.specs.Words.{words, normal, order_lists, expand}
use Rattle.words.specs.Spelled.{SLOT, word_at, words_at, words_in}
use Rattle.words.specs.Multiply.{MOST, MultipliesOut}
use Rattle.words.specs.WordLists.{ListsWords, SameWords}
use Rattle.words.specs.Theory.Order.{word_order, list_order}
use Rattle.words.specs.Theory.Expand.{words_expand}
use Rattle.words.proofs.Stand.{between_end, between_words}

-- the slots that a term was multiplied out into, in order
module _ {xs ws ss ws' : List ℕ} {n : ℕ} (m : MultipliesOut xs ws ss n ws') (p : SLOT * MOST ≤ length ws) (q : SLOT * MOST ≤ length ss) where
  multiplied_slots : (t : Term) → IsRun xs t → size t ≤ 31 → words_in ws' n ≡ expand t
  multiplied_slots t h small =
      let b = (m.exact t h small p q).put in
      rw (between_end b, zero-add) (between_words b)

  pub listed : (part rest : List ℕ) → length part ≡ n → words_at ws' part ≡ normal kept (words_in ws' n) → ListsWords xs n ws' (part ++ rest)
  listed part rest l e =
      record {
        within = omega (arith, length-append part rest);
        exact = λ t h small. rw (take_at part rest n l) (e ∙ ap (normal kept) (multiplied_slots t h small) ∙ sym (words_expand kept t));
      }

-- two lists of slots, word by word
module _ (u a v b : List ℕ) where
  -- the words before i are the same
  abbrev pub Alike : ℕ → Type 0
  Alike i = words_at u (take i a) ≡ words_at v (take i b)

  module _ (e : length a ≡ length b) (i : ℕ) where
    pub alike_next : i < length a → Alike i → word_at u (get_or a i 0) ≡ word_at v (get_or b i 0) → Alike (i + 1)
    alike_next h p w =
        rw (add-one, take-suc a i 0 h, take-suc b i 0 (omega arith), map-append, map-append) (ap₂ (λ us x. us ++ (x ∷ [])) p w)

    pub word_apart : i < length a → (word_at u (get_or a i 0) ≡ word_at v (get_or b i 0) → ⊥) → words_at u a ≡ words_at v b → ⊥
    word_apart h n f =
        n
        (sym (get_or-map (word_at u) a i 0 [] h)
        ∙ ap (λ us. get_or us i []) f
        ∙ get_or-map (word_at v) b i 0 [] (omega arith))

-- a word compared as a run is
pub equal_words : {xs ys : List ℕ} {b : Bool} → Equals xs ys b → Reflects (xs ≡ ys) b
equal_words {xs} {ys} h = rw h.numbers (tie_reflects word_order xs ys)

-- the lists of two terms, and whether they are the same
pub lists_same : {xs ys us vs a b : List ℕ} {m n : ℕ} {r : Bool} → ListsWords xs m us a → ListsWords ys n vs b
    → Reflects (words_at us (take m a) ≡ words_at vs (take n b)) r → SameWords xs ys r
lists_same {r = r} L R h =
    λ s t p q small-s small-t.
    let e = L.exact s p small-s in
    let f = R.exact t q small-t in
    tests_agree r (compare_is_eq (order_lists (words s) (words t))) h (tie_reflects list_order (words s) (words t)) (λ d. sym e ∙ d ∙ f) (λ d. e ∙ d ∙ sym f)
