-- The v letters of the words in slots, gathered word by word.
use Rattle.std.proofs.Common.{◌≡◌, ℕ, ◌+◌, ◌-◌, ◌≤◌, List, [], ◌∷◌, ◌++◌, length, take, sym, refl, ap, ◌∙◌, append_assoc, append-nil, arith, take-append-drop, length-take-le}
use Prim.Native.Nat.{compare}
use mathlib.Core.List.{flatten, foldl-append}
use Rattle.terms.specs.Sort.{lost}
use Rattle.terms.specs.Letters.{FIXED, those_below, variables}
use Rattle.terms.specs.Promises.{Fills}
use Rattle.terms.specs.Theory.Letters.{below_append}
use Rattle.terms.specs.Theory.Insert.{insert_all_grows}
use Rattle.std.specs.Prelude.{Option}
use Rattle.std.specs.Prelude.{Some, None}
use Rattle.terms.proofs.Gathered.{gathered, fills_front, fills_then, fills_none}
use Rattle.words.specs.Words.{Word}
use Rattle.words.specs.Rename.{count_from}
use Rattle.words.specs.Spelled.{word_at, words_at, words_in}
use Rattle.words.proofs.SlotWords.{words_in_add, words_in_next}

flatten_append : (us vs : List Word) → flatten (us ++ vs) ≡ flatten us ++ flatten vs
unfolding flatten
flatten_append [] vs = refl
flatten_append (u ∷ us) vs = ap (u ++◌) (flatten_append us vs) ∙ sym (append_assoc u (flatten us) (flatten vs))

gathered_append : (front xs ys : List ℕ) → gathered FIXED front (xs ++ ys) ≡ gathered FIXED (gathered FIXED front xs) ys
gathered_append front xs ys = rw (below_append FIXED xs ys) (foldl-append _ front (variables xs) (variables ys))

-- the v letters of the words in the first i slots, put among those of a front
abbrev pub gathered_to : (ws front : List ℕ) (i : ℕ) → List ℕ
gathered_to ws front i = gathered FIXED front (flatten (words_in ws i))

gathered_next : (ws front : List ℕ) (i : ℕ) → gathered_to ws front (i + 1) ≡ gathered FIXED (gathered_to ws front i) (word_at ws i)
unfolding flatten
gathered_next ws front i =
    rw (words_in_next ws i, flatten_append, append-nil) (gathered_append front (flatten (words_in ws i)) (word_at ws i))

gathered_grows : (ws front : List ℕ) (i n : ℕ) → i ≤ n → length (gathered_to ws front i) ≤ length (gathered_to ws front n)
gathered_grows ws front i n h =
    let e : n ≡ i + (n - i) = omega arith in
    rw (e, words_in_add ws i (n - i), flatten_append, gathered_append)
    (insert_all_grows lost compare (gathered_to ws front i) (variables (flatten (words_at ws (count_from (n - i) i)))))

module _ (ws out₀ : List ℕ) (n : ℕ) where
  pub no_words_gathered : n ≤ length out₀ → Fills (gathered_to ws (take n out₀) 0) out₀ (Some n) out₀
  unfolding count_from flatten those_below
  no_words_gathered h = (sym (length-take-le n out₀ h), h, sym (take-append-drop n out₀))

  module _ (i count : ℕ) (out out' : List ℕ) {w : Word} (r : Option ℕ) (f : Fills (gathered_to ws (take n out₀) i) out₀ (Some count) out)
      (e : w ≡ word_at ws i) (g : Fills (gathered FIXED (take count out) w) out r out') where
    pub word_gathered : Fills (gathered_to ws (take n out₀) (i + 1)) out₀ r out'
    word_gathered =
        let l = gathered_to ws (take n out₀) i in
        rw (gathered_next ws (take n out₀) i)
        (fills_then l (gathered FIXED l (word_at ws i)) out₀ out out' r f (insert_all_grows lost compare l (variables (word_at ws i)))
        (rw (fills_front l out₀ out f, e) at g))

-- more words need no less room
pub words_overflow : (ws front : List ℕ) (i n : ℕ) (out out' : List ℕ) {r : Option ℕ} → i ≤ n → r ≡ None
    → Fills (gathered_to ws front i) out r out' → Fills (gathered_to ws front n) out None out'
words_overflow ws front i n out out' h d f =
    fills_none (gathered_to ws front i) (gathered_to ws front n) out out' (gathered_grows ws front i n h) (rw d at f)
