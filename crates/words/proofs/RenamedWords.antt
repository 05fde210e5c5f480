-- Words renamed: one into a slot, one after another, and all of them sorted and written.
use Rattle.std.proofs.Common.{◌≡◌, ℕ, ◌+◌, ◌*◌, ◌<◌, ◌≤◌, true, List, [], ◌∷◌, ◌++◌, map, length, take, sym, refl, ap, ◌∙◌, ap₂, append-nil, arith, length-take}
use mathlib.Core.List.{map-append}
use lib.ListN.{length-map}
use lib.Seq.{sets}
use Rattle.terms.specs.Compare.{order_numbers}
use Rattle.terms.specs.Equation.{orient}
use Rattle.terms.specs.Run.{ZERO}
use Rattle.terms.specs.Sort.{kept}
use Rattle.words.specs.Words.{Word, normal}
use Rattle.words.specs.Rename.{count_from, rename_words}
use Rattle.words.specs.RenameRun.{rename_number, rename_run}
use Rattle.words.specs.Spelled.{SLOT, spelled, word_at, words_in}
use Rattle.words.specs.Multiply.{MOST, LONGEST, Fits, PutsWords}
use Rattle.words.specs.Sort.{Spells}
use Rattle.words.specs.Theory.Renaming.{map_words_depends}
use Rattle.words.specs.WordLists.{slot_words, Bounded, RenamesWords, WordRoom}
use Rattle.words.specs.Candidate.{Sides, Offers}
use Rattle.words.specs.Rank.{Exceeds}
use Rattle.words.specs.Theory.WordLetters.{each_flat}
use Rattle.words.proofs.Puts.{puts_none}
use Rattle.words.proofs.Renamed.{letter_renamed}
use Rattle.words.proofs.Candidates.{renamed_front}
use Rattle.words.proofs.Visited.{Made, passed_over}
use Rattle.words.proofs.Kept.{both_after}
use Rattle.words.proofs.SlotWords.{words_in_next, puts_more, puts_listed}
use Rattle.words.proofs.BoundedWords.{rename_bounded, bounded_written}

-- one word, by way of a buffer
pub word_renamed : (f : ℕ → ℕ) (xs buffer : List ℕ) {x u ws ws' : List ℕ} {j k : ℕ} → length buffer ≡ LONGEST
    → x ≡ sets buffer 0 (rename_run f xs) → u ≡ take (length xs) x → PutsWords ((u ++ []) ∷ []) ws j k ws'
    → PutsWords (rename_run f xs ∷ []) ws j k ws'
word_renamed f xs buffer b e d p =
    record {
      few = p.few;
      exact = λ h.
          let short : length xs ≤ LONGEST = omega (arith, h.short, length-map xs (rename_number f)) in
          rw (append-nil, renamed_front f xs buffer b e d short) at p.exact h;
    }

-- one after another

module _ (F : Word → Word) (ws ss : List ℕ) where
  pub none_renamed : PutsWords (map F (words_in ws 0)) ss 0 0 ss
  unfolding count_from
  none_renamed = record { few = λ h. h; exact = λ h. puts_none ss 0 }

  pub one_more_renamed : (i : ℕ) {j k : ℕ} {ss₁ ss₂ : List ℕ} {w : Word} → PutsWords (map F (words_in ws i)) ss 0 j ss₁
      → w ≡ word_at ws i → PutsWords (F w ∷ []) ss₁ j k ss₂ → PutsWords (map F (words_in ws (i + 1))) ss 0 k ss₂
  one_more_renamed i p e q = rw (words_in_next ws i, map-append) (puts_more p (rw e at q))

-- all of them

letters_renamed : (f : ℕ → ℕ) {us : List Word} → Bounded us → map (rename_run f) us ≡ map (map f) us
letters_renamed f {us} b = map_words_depends us (rename_number f) f (λ n m. sym (letter_renamed f n (each_flat (λ n. n < ZERO) us b.small n m)))

pub words_renamed : (f : ℕ → ℕ) (ws ss : List ℕ) {ss' ks out out' : List ℕ} {n r : ℕ} → PutsWords (map (rename_run f) (slot_words ws)) ss 0 n ss'
    → ks ≡ take (SLOT * n) ss' → Spells (normal kept (slot_words ks)) out r out' → RenamesWords f ws ss out r out'
unfolding rename_words
words_renamed f ws ss p e s =
    record {
      within = s.within;
      exact = λ b k slots room.
          let us = slot_words ws in
          let d = rename_bounded f k b in
          let fits : Fits (map (rename_run f) us) ss 0 = rw (letters_renamed f b) (record { few = omega (arith, d.few); short = d.short; room = slots }) in
          let l = ap slot_words e ∙ puts_listed (p.exact fits) (omega (arith, p.few (omega arith))) ∙ letters_renamed f b in
          bounded_written d room (rw l at s);
    }

pub slots_as_long : {f : ℕ → ℕ} {ws ss ss₁ out out' : List ℕ} {r : ℕ} → length ss₁ ≡ length ss
    → RenamesWords f ws ss₁ out r out' → RenamesWords f ws ss out r out'
slots_as_long e p = record { within = p.within; exact = λ b k slots. p.exact b k (omega arith) }

-- the equation of both lists
abbrev both_renamed : (us vs : List ℕ) (new : ℕ → ℕ) → Sides
both_renamed us vs new = orient order_numbers (spelled (rename_words new (slot_words us))) (spelled (rename_words new (slot_words vs)))

pub words_made : (us vs : List ℕ) (new : ℕ → ℕ) {ss x y x' y' : List ℕ} {m n room : ℕ}
    → SLOT * MOST ≤ length ss → length x ≡ SLOT * MOST → length y ≡ SLOT * MOST
    → RenamesWords new us ss x m x' → RenamesWords new vs ss y n y'
    → ((n : ℕ) → n < ZERO → new n < ZERO) → WordRoom us vs room → Made (SLOT * MOST) (both_renamed us vs new) (take m x') (take n y') room
words_made us vs new {x' = x'} {y' = y'} {m = m} {n = n} slots long long' p q small h =
    record {
      room =
          record {
            first = omega (arith, length-take m x', p.within);
            second = omega (arith, length-take n y', q.within);
            sides = h.sides;
          };
      equation = ap₂ (orient order_numbers) (p.exact h.first small slots (omega arith)) (q.exact h.second small slots (omega arith));
    }

-- both lists come after the best's left side
pub words_passed : (us vs : List ℕ) (new : ℕ → ℕ) (c : ℕ) {room : ℕ} {run : List ℕ} {best : Sides}
    → Exceeds new us vs c run true → run ≡ best.left → Offers (WordRoom us vs room) (both_renamed us vs) new c best best
unfolding rename_words
words_passed us vs new c {best = best} e d =
    passed_over (e.later refl)
    (λ h.
    both_after (spelled (rename_words new (slot_words us))) (spelled (rename_words new (slot_words vs))) best
    (rw (d, letters_renamed new h.first) at (e.first refl))
    (rw (d, letters_renamed new h.second) at (e.second refl)))
