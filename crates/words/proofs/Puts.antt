-- Words put into slots: one word, no word, and some words after others.
use Rattle.std.proofs.Common.{◌≡◌, ℕ, suc, ◌+◌, ◌*◌, ◌<◌, ◌≤◌, List, [], ◌∷◌, ◌++◌, length, take, drop, set, sym, refl, ap, ◌∙◌, le_refl, add-one, arith, length-append, take-take, take_at}
use lib.Seq.{sets, length-sets}
use Rattle.terms.proofs.Positions.{drop_head}
use Rattle.words.specs.Words.{Word}
use Rattle.words.specs.Spelled.{SLOT}
use Rattle.words.specs.Multiply.{MOST, LONGEST, InSlot, none, more, Puts, Fits, PutsWords}
use Rattle.words.specs.Theory.Longest.{longest_append}
use Rattle.words.proofs.Stores.{sets_append, take_sets, drop_sets}
use Rattle.words.proofs.Stand.{between_end, between_front, between_append}

pub puts_none : (ws : List ℕ) (j : ℕ) → Puts [] ws j j ws
puts_none ws j = record { put = none refl; front = refl; room = refl }

module _ {us vs : List Word} {ws ws₁ ws₂ : List ℕ} {i j k : ℕ} where
  -- some words after others
  pub puts_then : Puts us ws i j ws₁ → Puts vs ws₁ j k ws₂ → Puts (us ++ vs) ws i k ws₂
  puts_then p q =
      let h : i ≤ j = omega (arith, between_end p.put) in
      record {
        put = between_append (between_front ws₂ j q.front (le_refl j) p.put) q.put;
        front =
            sym (take-take (SLOT * i) (SLOT * j) ws₂ (omega arith))
            ∙ ap (take (SLOT * i)) q.front
            ∙ take-take (SLOT * i) (SLOT * j) ws₁ (omega arith)
            ∙ p.front;
        room = q.room ∙ p.room;
      }

  -- if there is room for all, there is room for the first, and after them for the others
  pub puts_both : Fits (us ++ vs) ws i → (Fits us ws i → Puts us ws i j ws₁) → (Fits vs ws₁ j → Puts vs ws₁ j k ws₂) → Puts (us ++ vs) ws i k ws₂
  puts_both f p q =
      let r = p (record { few = omega (arith, length-append us vs); short = omega (arith, longest_append us vs); room = f.room }) in
      puts_then r
      (q (record {
        few = omega (arith, between_end r.put, length-append us vs);
        short = omega (arith, longest_append us vs);
        room = omega (arith, r.room);
      }))

-- what stood before the slots was as it is
pub puts_after : {us : List Word} {ws ws₁ ws₂ : List ℕ} {j k : ℕ} → take (SLOT * j) ws₁ ≡ take (SLOT * j) ws → length ws₁ ≡ length ws
    → Puts us ws₁ j k ws₂ → Puts us ws j k ws₂
puts_after e l p = record { put = p.put; front = p.front ∙ e; room = p.room ∙ l }

-- a word's length, then its letters
slot_filled : (ws : List ℕ) (k : ℕ) (u rest : List ℕ) → length u ≤ LONGEST → drop (SLOT * k) ws ≡ length u ∷ (u ++ rest) → InSlot ws k u
slot_filled ws k u rest h e =
    let p = drop_head ws (SLOT * k) (length u) (u ++ rest) e in
    record { count = p.1; letters = rw p.2 (take_at u rest (length u) refl); short = h }

-- one word, in two parts
module _ (ws : List ℕ) (k : ℕ) (a b : List ℕ) where
  abbrev filled : List ℕ
  filled = length (a ++ b) ∷ (a ++ b)

  -- what the three stores leave
  module _ (ws₁ ws₂ : List ℕ) (e₁ : ws₁ ≡ sets (set ws (SLOT * k) (length a + length b)) (SLOT * k + 1) a) (e₂ : ws₂ ≡ sets ws₁ (SLOT * k + 1 + length a) b) where
    at_once : ws₂ ≡ sets ws (SLOT * k) filled
    at_once =
        e₂ ∙ rw (e₁, add-one, length-append a b) (sets_append (set ws (SLOT * k) (length a + length b)) (suc (SLOT * k)) a b)

    pub puts_one : k < MOST → SLOT * k + SLOT ≤ length ws → length a + length b ≤ LONGEST → PutsWords ((a ++ b) ∷ []) ws k (k + 1) ws₂
    puts_one h room short =
        let s : length (a ++ b) ≤ LONGEST = omega (arith, length-append a b) in
        let r : SLOT * k + length filled ≤ length ws = omega arith in
        let e : drop (SLOT * k) ws₂ ≡ filled ++ drop (SLOT * k + length filled) ws = rw at_once (drop_sets ws (SLOT * k) filled r) in
        record {
          few = λ p. omega arith;
          exact = λ f. record {
            put = more (slot_filled ws₂ k (a ++ b) (drop (SLOT * k + length filled) ws) s e) (none (sym (add-one k)));
            front = rw at_once (take_sets (SLOT * k) ws (SLOT * k) filled (omega arith));
            room = rw at_once (length-sets ws (SLOT * k) filled);
          };
        }
