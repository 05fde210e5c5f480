-- The words of a spelled list, one after the other, with a byte between them.
use Prim.Native.Nat.{ℕ, suc, ◌+◌, ◌-◌, ◌<◌}
use Prim.Native.Char.{code}
use mathlib.Core.Path.{◌≡◌, refl, sym, ap, ap₂, ◌∙◌}
use mathlib.Core.List.{List, [], ◌∷◌, ◌++◌, map, append_assoc, append-nil, map-append}
use native.Mathlib.Omega.{arith}
use mathlib.Core.Bool.{Bool, false, cond}
use lib.Dec.{eqb, ltb, eqb-suc-zero}
use borrow.Author.Tests.{lt-ltb}
use Rattle.std.specs.Prelude.{Option, Some, None}
use Rattle.std.specs.List.{position_or_len}
use lib.ListN.{length, take, drop, length-map, length-append}
use lib.Seq.{take_at, drop-append-add}
use Rattle.std.proofs.Math.Numerals.{one-add}
use Rattle.words.specs.Words.{Word}
use Rattle.words.specs.Spelled.{spelled}
use Rattle.text.specs.Bytes.{parted}
use Rattle.text.specs.TermText.{write_letter}
use Rattle.text.specs.Words.{word, word_list}
use Rattle.text.specs.Items.{gap}
use Rattle.text.specs.Writer.{Writes}
use Rattle.text.specs.declared.writer.Writer.{Writer}
use Rattle.text.proofs.Writing.{then, put_as, put_none}
use Rattle.text.proofs.Items.{parted_more}

-- ---- one word

-- the text of a spelled word's number
abbrev pub letter_text : ℕ → List ℕ
letter_text n = write_letter (n - 1)

letters_text : (w : Word) → map letter_text (map suc w) ≡ map write_letter w
letters_text [] = refl
letters_text (n ∷ w) = let e : suc n - 1 ≡ n = omega arith in ap₂ ◌∷◌ (ap write_letter e) (letters_text w)

pub put_empty_word : {o o₁ : Writer} (xs : List ℕ) (w : Word) → length xs ≡ 0 → xs ≡ map suc w → Writes (code "1" ∷ []) o o₁ → Writes (word w) o o₁
unfolding word
put_empty_word xs [] h e p = p
put_empty_word xs (n ∷ w) h e p = let z : ⊥ = omega (arith, ap length e) in absurd z

-- when every number of a word is put, its text is
pub put_whole_word : {o o₁ : Writer} (xs : List ℕ) (w : Word) → (length xs ≡ 0 → ⊥) → xs ≡ map suc w
    → Writes (parted (code " ") (map letter_text xs)) o o₁ → Writes (word w) o o₁
unfolding word
put_whole_word xs [] f e p = absurd (f (ap length e))
put_whole_word xs (n ∷ w) f e p = put_as (ap (parted (code " ")) (ap (map letter_text) e ∙ letters_text (n ∷ w))) p

-- ---- several words

-- of the words ws, `count` are put, and the list xs spells the others
pub record Before (ws : List Word) (xs : List ℕ) (count : ℕ) (o o₁ : Writer) : Type 0 where
  pub put : List Word
  pub left : List Word
  pub all : put ++ left ≡ ws
  pub ahead : xs ≡ spelled left
  pub counted : count ≡ length put
  pub text : Writes (parted (code ";") (map word put)) o o₁

pub none_before : (ws : List Word) (xs : List ℕ) (o : Writer) → xs ≡ spelled ws → Before ws xs 0 o o
unfolding parted
none_before ws xs o e = record { put = []; left = ws; all = refl; ahead = e; counted = refl; text = put_none o }

spelled_cons : (v : Word) (vs : List Word) → spelled (v ∷ vs) ≡ map suc v ++ (0 ∷ spelled vs)
unfolding spelled
spelled_cons v vs = append_assoc (map suc v) (0 ∷ []) (spelled vs)

place_later : (p : ℕ → Bool) (x : ℕ) (xs : List ℕ) → p x ≡ false → position_or_len p (x ∷ xs) ≡ 1 + position_or_len p xs
place_later p x xs e = rw e refl

-- the first 0 ends the first word
word_ended : (v : Word) (xs : List ℕ) → position_or_len (λ n. eqb n 0) (map suc v ++ (0 ∷ xs)) ≡ length v
word_ended [] xs = refl
word_ended (n ∷ v) xs = place_later (λ n. eqb n 0) (suc n) (map suc v ++ (0 ∷ xs)) (eqb-suc-zero n) ∙ ap (λ k. 1 + k) (word_ended v xs) ∙ one-add (length v)

-- what a search for the first place says
abbrev pub Ended : List ℕ → Option ℕ → Type 0
Ended xs r = r ≡ cond (ltb (position_or_len (λ n. eqb n 0) xs) (length xs)) (Some (position_or_len (λ n. eqb n 0) xs)) None

module _ {xs : List ℕ} {r : Option ℕ} (E : Ended xs r) (v : Word) (vs : List Word) (e : xs ≡ spelled (v ∷ vs)) where
  stands : xs ≡ map suc v ++ (0 ∷ spelled vs)
  stands = e ∙ spelled_cons v vs

  ended : r ≡ Some (length v)
  ended =
      let f : position_or_len (λ n. eqb n 0) xs ≡ length v = ap (position_or_len (λ n. eqb n 0)) stands ∙ word_ended v (spelled vs) in
      let h : length v < length xs = omega (arith, ap length stands, length-append (map suc v) (0 ∷ spelled vs), length-map v suc) in
      E ∙ rw (f, lt-ltb (length v) (length xs) h)

  end_is : {end : ℕ} → r ≡ Some end → end ≡ length v
  end_is q = let p = ended in cc

  word_here : {end : ℕ} → r ≡ Some end → take end xs ≡ map suc v
  word_here {end} q = ap (take end) stands ∙ take_at (map suc v) (0 ∷ spelled vs) end (length-map v suc ∙ sym (end_is q))

  word_after : {end : ℕ} → r ≡ Some end → drop (end + 1) xs ≡ spelled vs
  word_after {end} q =
      let n : end + 1 ≡ length (map suc v) + 1 = omega (arith, end_is q, length-map v suc) in
      ap (λ k. drop k xs) n ∙ ap (drop (length (map suc v) + 1)) stands ∙ drop-append-add (map suc v) (0 ∷ spelled vs) 1

-- no word is left
none_left : {xs : List ℕ} {r : Option ℕ} → Ended xs r → xs ≡ spelled [] → {end : ℕ} → r ≡ Some end → ⊥
unfolding spelled
none_left E e q = let f = ap (λ l. cond (ltb (position_or_len (λ n. eqb n 0) l) (length l)) (Some (position_or_len (λ n. eqb n 0) l)) None) e in let g = sym q ∙ E ∙ f in let z : ◌≡◌ {A = ℕ} 0 1 = cc in omega arith

-- the first word of xs is put behind those before it
pub one_more : {xs : List ℕ} {o o₁ o₂ o₃ : Writer} {n : ℕ} {ws : List Word} {r : Option ℕ} (end : ℕ) → Ended xs r → r ≡ Some end → Before ws xs n o o₁
    → Writes (gap (code ";") n) o₁ o₂ → ((w : Word) → take end xs ≡ map suc w → Writes (word w) o₂ o₃) → Before ws (drop (end + 1) xs) (n + 1) o o₃
unfolding spelled
one_more {xs} {o} {o₁} {o₂} {o₃} {n} {ws} {r} end E q p g f = go p.left p.all p.ahead
  where
    us : List Word
    us = p.put

    law : (v : Word) → (parted (code ";") (map word us) ++ gap (code ";") n) ++ word v ≡ parted (code ";") (map word (us ++ (v ∷ [])))
    law v =
        ap (λ k. (parted (code ";") (map word us) ++ gap (code ";") k) ++ word v) (p.counted ∙ sym (length-map us word))
        ∙ parted_more (code ";") (map word us) (word v)
        ∙ ap (parted (code ";")) (sym (map-append word us (v ∷ [])))

    go : (vs : List Word) → us ++ vs ≡ ws → xs ≡ spelled vs → Before ws (drop (end + 1) xs) (n + 1) o o₃
    go [] all e = absurd (none_left E e q)
    go (v ∷ vs) all e =
        record {
          put = us ++ (v ∷ []);
          left = vs;
          all = append_assoc us (v ∷ []) vs ∙ all;
          ahead = word_after E v vs e q;
          counted = omega (arith, p.counted, length-append us (v ∷ []));
          text = put_as (law v) (then (then p.text g) (f v (word_here E v vs e q)));
        }

some_spelled : (v : Word) (vs : List Word) → 0 < length (spelled (v ∷ vs))
some_spelled v vs = rw (spelled_cons v vs, length-append (map suc v) (0 ∷ spelled vs)) (omega arith)

pub put_no_words : {o o₁ : Writer} (xs : List ℕ) (ws : List Word) → length xs ≡ 0 → xs ≡ spelled ws → Writes (code "0" ∷ []) o o₁
    → Writes (word_list ws) o o₁
unfolding word_list
put_no_words xs [] h e p = p
put_no_words xs (w ∷ ws) h e p = let z : ⊥ = omega (arith, ap length e, some_spelled w ws) in absurd z

-- when no word is left, the text of all is put
pub put_all_words : {o o₁ : Writer} {xs rest : List ℕ} {n : ℕ} {r : Option ℕ} (ws : List Word) → (length xs ≡ 0 → ⊥) → xs ≡ spelled ws → Ended rest r → r ≡ None
    → Before ws rest n o o₁ → Writes (word_list ws) o o₁
unfolding word_list spelled
put_all_words {xs = xs} {rest} {r = r} ws f e E q p = put_as (ap (λ us. parted (code ";") (map word us)) (all p.left p.all p.ahead) ∙ whole ws e) p.text
  where
    all : (vs : List Word) → p.put ++ vs ≡ ws → rest ≡ spelled vs → p.put ≡ ws
    all [] d a = sym (append-nil p.put) ∙ d
    all (v ∷ vs) d a = let z : ◌≡◌ {A = Option ℕ} None (Some (length v)) = sym q ∙ ended E v vs a in let y : ◌≡◌ {A = ℕ} 0 1 = cc in absurd (omega arith)

    whole : (vs : List Word) → xs ≡ spelled vs → parted (code ";") (map word vs) ≡ word_list vs
    whole [] d = absurd (f (ap length d))
    whole (v ∷ vs) d = refl
