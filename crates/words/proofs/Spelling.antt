-- Writing words as a run: one number more, one word more.
use Rattle.std.proofs.Common.{◌≡◌, ℕ, suc, ◌+◌, ◌-◌, ◌%◌, ◌^◌, ◌<◌, ◌≤◌, List, [], ◌∷◌, ◌++◌, map, length, get_or, take, drop, set, sym, refl, ap, ◌∙◌, append_assoc, append-nil, add-one, arith, length-append, length-drop, length-take-le, take-suc, drop-drop, take-suc-set, drop-set-lt}
use mathlib.Core.List.{flat_map, map-append}
use lib.ListN.{length-map}
use lib.Seq.{take-append-add, drop-append-add, take-length, split_at}
use borrow.Rule.Slice.PartMut.{mid_of, put_mid, same_len_mid}
use Rattle.terms.specs.Lists.{here, in_map, in-cast, only_one}
use Rattle.terms.specs.Theory.Members.{getD_in}
use Rattle.words.specs.Words.{Word}
use Rattle.words.specs.Spelled.{spelled_word, spelled, word_at, words_at}
use Rattle.words.specs.Sort.{Front, Lettered, Spells}
use Rattle.words.proofs.Parts.{end_lent, end_back}

spelled_append : (us vs : List Word) → spelled (us ++ vs) ≡ spelled us ++ spelled vs
unfolding spelled flat_map
spelled_append [] vs = refl
spelled_append (u ∷ us) vs = ap (spelled_word u ++◌) (spelled_append us vs) ∙ sym (append_assoc (spelled_word u) (spelled us) (spelled vs))

spelled_one : (w : Word) → spelled (w ∷ []) ≡ map suc w ++ (0 ∷ [])
unfolding spelled flat_map
spelled_one w = append-nil (spelled_word w)

length_one : (w : Word) → length (spelled (w ∷ [])) ≡ length w + 1
length_one w = rw (spelled_one w) (simp (length-append, length-map) refl)

-- a word

module _ (w : Word) (out : List ℕ) where
  pub no_room : length out ≤ length w → Spells (w ∷ []) out (length out) out
  no_room h = record { within = omega arith; exact = λ f k. absurd (omega (arith, length_one w)) }

  -- the letters before i are written, and what follows the word is kept
  pub record LettersTo (i : ℕ) (out' : List ℕ) : Type 0 where
    pub rest : drop (length w + 1) out' ≡ drop (length w + 1) out
    pub letters : Lettered (w ∷ []) → take i out' ≡ map suc (take i w)

  module _ (i : ℕ) (out' : List ℕ) (same : length out' ≡ length out) (room : length w < length out) (l : LettersTo i out') where
    pub letter_next : (x : ℕ) → i < length w → x ≡ (get_or w i 0 + 1) % 2 ^ 32 → LettersTo (i + 1) (set out' i x)
    letter_next x h e =
        record {
          rest = drop-set-lt (length w + 1) out' i x (omega arith) ∙ l.rest;
          letters = λ f.
              let s : x ≡ suc (get_or w i 0) = omega (arith, f w (here refl) (get_or w i 0) (getD_in 0 w i h)) in
              rw (add-one, take-suc-set out' i x (omega arith), take-suc w i 0 h, map-append, l.letters f, s);
        }

    pub word_end : i ≡ length w → Spells (w ∷ []) out (length w + 1) (set out' (length w) 0)
    word_end e =
        record {
          within = omega arith;
          exact = λ f k.
              let t : take (length w) out' ≡ map suc w = rw (e, take-length) at (l.letters f) in
              record {
                size = sym (length_one w);
                numbers = rw (add-one, take-suc-set out' (length w) 0 (omega arith), t, spelled_one);
                rest = drop-set-lt (length w + 1) out' (length w) 0 (omega arith) ∙ l.rest;
              };
        }

-- a list of words

front_then : (xs ys out out' part : List ℕ) (n r : ℕ) → n ≤ length out'
    → Front xs out n out' → Front ys (drop n out') r part → Front (xs ++ ys) out (n + r) (take n out' ++ part)
front_then xs ys out out' part n r h f g =
    let l = length-take-le n out' h in
    let t : take (n + r) (take n out' ++ part) ≡ take n out' ++ take r part = rw l at (take-append-add (take n out') part r) in
    let d : drop (n + r) (take n out' ++ part) ≡ drop r part = rw l at (drop-append-add (take n out') part r) in
    record {
      size = rw (length-append, ← f.size, ← g.size);
      numbers = rw (t, f.numbers, g.numbers);
      rest = d ∙ g.rest ∙ ap (λ xs. drop r xs) f.rest ∙ drop-drop r n out;
    }

-- the words before slot i of the list, and the word in it, are no longer than all
room_for : (ws order : List ℕ) (i : ℕ) → i < length order
    → length (spelled (words_at ws (take i order))) + length (spelled (word_at ws (get_or order i 0) ∷ [])) ≤ length (spelled (words_at ws order))
room_for ws order i h =
    let us = words_at ws (take i order) in
    let v = word_at ws (get_or order i 0) in
    let vs = words_at ws (drop (suc i) order) in
    let e : words_at ws order ≡ us ++ (v ∷ vs) = ap (words_at ws) (split_at order i 0 h) ∙ map-append (word_at ws) (take i order) (get_or order i 0 ∷ drop (suc i) order) in
    rw (e, spelled_append us (v ∷ vs), spelled_append (v ∷ []) vs) (simp length-append (omega arith))

-- the words in the first i of the slots are written up to n, if all find room
pub record SpelledTo (ws order out : List ℕ) (i n : ℕ) (out' : List ℕ) : Type 0 where
  pub within : n ≤ length out
  pub same : length out' ≡ length out
  pub front : Lettered (words_at ws order) → length (spelled (words_at ws order)) ≤ length out → Front (spelled (words_at ws (take i order))) out n out'

module _ (ws order out : List ℕ) where
  pub spell_start : SpelledTo ws order out 0 0 out
  unfolding spelled flat_map
  spell_start = record { within = omega arith; same = refl; front = λ f fits. record { size = refl; numbers = refl; rest = refl } }

  module _ (i n : ℕ) (out' : List ℕ) (s : SpelledTo ws order out i n out') where
    pub spell_next : (w : Word) (r : ℕ) (part : List ℕ) → i < length order → w ≡ word_at ws (get_or order i 0)
        → length part ≡ length (mid_of n (length out' - n) out') → Spells (w ∷ []) (mid_of n (length out' - n) out') r part
        → SpelledTo ws order out (i + 1) (n + r) (put_mid n (length out' - n) out' part)
    spell_next w r part h e l p =
        let v = word_at ws (get_or order i 0) in
        let q = rw (e, end_lent out' n) at p in
        record {
          within = omega (arith, s.within, s.same, q.within, length-drop n out');
          same = same_len_mid n (length out' - n) out' part l ∙ s.same;
          front = λ f fits.
              let g = s.front f fits in
              let small : Lettered (v ∷ []) = λ u m x y. f u (in-cast (only_one m) (in_map (word_at ws) (getD_in 0 order i h))) x y in
              let room : length (spelled (v ∷ [])) ≤ length (drop n out') = omega (arith, room_for ws order i h, g.size, s.same, length-drop n out') in
              rw (end_back out' n part, add-one, take-suc order i 0 h, map-append, spelled_append)
              (front_then (spelled (words_at ws (take i order))) (spelled (v ∷ [])) out out' part n r (omega (arith, s.within, s.same)) g (q.exact small room));
        }
