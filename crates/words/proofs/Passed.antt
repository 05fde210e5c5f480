-- Words passed over together: they begin with the same two letters, and these tell.
use Rattle.std.proofs.Common.{◌≡◌, ℕ, zero, suc, ◌+◌, ◌-◌, ◌*◌, ◌/◌, ◌<◌, ◌≤◌, false, List, [], ◌∷◌, ◌++◌, length, get_or, take, drop, sym, refl, ap, ◌∙◌, subst, ⊎_elim, add-zero, eq-or-lt_of_le, add-one, arith, take-append-drop, drop-cons, take-take}
use Prim.Native.Nat.{compare}
use mathlib.Core.List.{map-append}
use Rattle.std.proofs.lemmas.Bool.{true≢false}
use Rattle.std.specs.Ordering.{is_le}
use Rattle.std.specs.declared.cmp.Ordering as answered
use Rattle.std.specs.declared.cmp.Ordering.TheVariants.{Less, Equal, Greater}
use Rattle.terms.specs.Compare.{gt, then, lexicographic}
use Rattle.terms.specs.Promises.{ordering_of}
use Rattle.terms.specs.Theory.Order.{cases}
use Rattle.words.specs.Words.{Word, order_words}
use Rattle.words.specs.Spelled.{SLOT, word_at}
use Rattle.words.specs.RenameRun.{rename_run}
use Rattle.words.specs.Rank.{Paired, Passes}
use Rattle.words.specs.declared.candidate.rank.Rank.{Rank}
use Rattle.words.proofs.Ranked.{Counted, one_more_counted}

two : (xs : List ℕ) (i : ℕ) → i + 1 < length xs → take 2 (drop i xs) ≡ get_or xs i 0 ∷ get_or xs (i + 1) 0 ∷ []
two xs i h =
    let x = get_or xs i 0 in
    ap (take 2) (drop-cons xs i 0 (omega arith) ∙ ap (λ n. x ∷ drop n xs) (sym (add-one i)) ∙ ap (λ l. x ∷ l) (drop-cons xs (i + 1) 0 h))

pub pair_here : (ws : List ℕ) (k x y : ℕ) → k < length ws / SLOT → 2 ≤ get_or ws (SLOT * k) 0
    → get_or ws (SLOT * k + 1) 0 ≡ x → get_or ws (SLOT * k + 2) 0 ≡ y → take 2 (word_at ws k) ≡ x ∷ y ∷ []
unfolding word_at
pair_here ws k x y h m d e =
    let n : SLOT * k + 1 + 1 ≡ SLOT * k + 2 = omega arith in
    take-take 2 (get_or ws (SLOT * k) 0) (drop (SLOT * k + 1) ws) m ∙ two ws (SLOT * k + 1) (omega arith) ∙ rw (n, d, e)

module _ (ws : List ℕ) (x y i : ℕ) where
  pub pair_none : Paired ws x y i i
  pair_none = record { within = omega arith; same = λ j h l. absurd (omega arith) }

  pub pair_next : (k : ℕ) → Paired ws x y i k → k < length ws / SLOT → take 2 (word_at ws k) ≡ x ∷ y ∷ [] → Paired ws x y i (k + 1)
  pair_next k p h e =
      record {
        within = omega arith;
        same = λ j g l.
            let m : j ≤ k = omega arith in
            ⊎_elim (λ d. rw d e) (λ b. p.same j g b) (eq-or-lt_of_le m);
      }

-- a word that comes after another does so with more letters behind it
longer_greater : (p q w : Word) → order_words p w ≡ gt → order_words (p ++ q) w ≡ gt
unfolding lexicographic then
longer_greater [] q [] e = cc
longer_greater [] q (b ∷ w) e = cc
longer_greater (a ∷ p) q [] e = refl
longer_greater (a ∷ p) q (b ∷ w) e = cases (compare a b) (λ d. cc) (λ d. rw d (longer_greater p q w (rw d at e))) (λ d. rw d)

pub none_passed : (F : Word → Word) (ws : List ℕ) (w : Word) (i : ℕ) → Passes F ws w i i
none_passed F ws w i = record { within = omega arith; after = λ j h l. absurd (omega arith) }

pub pair_passed : (f : ℕ → ℕ) (ws : List ℕ) (w : Word) (i r : ℕ) (word : List ℕ) → 2 ≤ length word
    → (o : answered.Ordering) → is_le o ≡ false → ordering_of o ≡ order_words (rename_run f (take 2 word)) w → Paired ws (get_or word 0 0) (get_or word 1 0) i r → Passes (rename_run f) ws w i r
pair_passed f ws w i r word h Less l g p = absurd (true≢false l)
pair_passed f ws w i r word h Equal l g p = absurd (true≢false l)
pair_passed f ws w i r word h Greater l g p =
    record {
      within = p.within;
      after = λ j k m.
          let v = word_at ws j in
          let same : take 2 v ≡ take 2 word = p.same j k m ∙ sym (two word 0 (omega arith)) in
          let split : rename_run f v ≡ rename_run f (take 2 word) ++ rename_run f (drop 2 v) =
          ap (rename_run f) (sym (take-append-drop 2 v)) ∙ map-append _ (take 2 v) (drop 2 v) ∙ ap (λ u. rename_run f u ++ rename_run f (drop 2 v)) same in
          rw split (longer_greater (rename_run f (take 2 word)) (rename_run f (drop 2 v)) w (sym g));
    }

-- words that come after another change no count
module _ (F : Word → Word) (ws : List ℕ) (w : Word) {k : Rank} where
  some_passed : (i n : ℕ) → ((j : ℕ) → i ≤ j → j < i + n → order_words (F (word_at ws j)) w ≡ gt) → Counted F ws w i k → Counted F ws w (i + n) k
  some_passed i zero h c = rw (add-zero i) c
  some_passed i (suc n) h c =
      let e : i + suc n ≡ i + n + 1 = omega arith in
      rw e
      (one_more_counted F ws w (i + n) gt (some_passed i n (λ j g l. h j g (omega arith)) c) refl (sym (h (i + n) (omega arith) (omega arith)))
      (record { less = omega arith; upto = omega arith }))

  pub all_passed : (i r : ℕ) → i < r → Passes F ws w i r → Counted F ws w i k → Counted F ws w r k
  all_passed i r h p c =
      let e : i + (r - i) ≡ r = omega arith in
      subst (λ n. Counted F ws w n k) e (some_passed i (r - i) (λ j g l. p.after j g (omega arith)) c)
