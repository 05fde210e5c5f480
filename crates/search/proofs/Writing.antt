-- The run in a slot, an origin written, a slot written, and the slots that stay.
use Prim.Native.Nat.{ℕ, ◌+◌, ◌-◌, ◌*◌, ◌≤◌, ◌<◌}
use native.Mathlib.Omega.{arith}
use mathlib.Core.Path.{◌≡◌, refl, sym, ap, ◌∙◌}
use mathlib.Core.Logic.{◌⊎◌, inl, inr}
use mathlib.Core.List.{List, ◌++◌, append_assoc}
use borrow.Rule.Slice.PartMut.{put_mid}
use lib.ListN.{length, take, drop, get_or, set, length-set, length-drop}
use lib.Seq.{sets, sets-eq, drop-drop, length-sets, get_or-set_same, get_or-set_other, get_or-take, get_or-drop, length-take-le, ext_get_or}
use Rattle.std.proofs.lemmas.List.{length-take}
use Rattle.words.proofs.Stores.{take_stored}
use Rattle.terms.specs.Term.{Term, size}
use Rattle.terms.specs.Held.{IsRun}
use Rattle.terms.specs.Theory.Held.{size_of}
use Rattle.terms.specs.Theory.Order.{below?}
use Rattle.terms.proofs.Positions.{front_getD}
use Rattle.terms.proofs.Held.{held_part, holds_part, front_holds}
use Rattle.search.specs.Origins.{numbers}
use Rattle.search.specs.Index.{SLOT}
use Rattle.search.specs.Runs.{Spells, origin_of, value_of, Rewrites, Writes}
use Rattle.search.specs.declared.slots.Origin.{Origin}
use Rattle.search.proofs.Front.{front_part}
use Rattle.search.proofs.Origins.{four, get_d_sets, getD_sets_other, origin_back, origin_same, origin_front}

-- the run in slot k, as a part of the list from number 8 of the slot on
abbrev run_length : List ℕ → ℕ → ℕ
run_length ws k = SLOT * k + 8 + get_or ws (SLOT * k) 0 - (SLOT * k + 8)

abbrev pub run_in : List ℕ → ℕ → List ℕ
run_in ws k = take (run_length ws k) (drop (SLOT * k + 8) ws)

pub run_spelled : {ws : List ℕ} {k : ℕ} {t : Term} → Spells ws k t → IsRun (run_in ws k) t
run_spelled {ws} {k} s = held_part (run_length ws k) s.held (omega (arith, s.count))

-- a part overwritten, as stores one after the other
pub part_stored : (ws : List ℕ) (a e : ℕ) (vs : List ℕ) → e ≡ a + length vs → e ≤ length ws → put_mid a (e - a) ws vs ≡ sets ws a vs
part_stored ws a e vs p h =
    let q : a + (e - a) ≡ a + length vs = omega arith in
    ap (λ r. take a ws ++ (vs ++ r)) (drop-drop (e - a) a ws ∙ ap (λ n. drop n ws) q)
    ∙ sym (append_assoc (take a ws) vs (drop (a + length vs) ws)) ∙ sym (sets-eq vs ws a (omega (arith, p)))

-- where the first n numbers of two lists agree
front_same : (xs ys : List ℕ) (n : ℕ) → length ys ≡ length xs → ((i : ℕ) → i < n → get_or ys i 0 ≡ get_or xs i 0) → take n ys ≡ take n xs
front_same xs ys n e h =
    ext_get_or 0 (take n ys) (take n xs) (rw (length-take n ys, length-take n xs, e) refl)
    (λ i p.
    let q : i < n = omega (arith, length-take n ys) in
    get_or-take n ys i 0 q ∙ h i q ∙ sym (get_or-take n xs i 0 q))

-- what the stores of `write_origin` leave: ws₁ with the origin
module _ (ws ws₁ : List ℕ) (k : ℕ) (o : Origin) (v : ℕ) (room : SLOT * k + SLOT ≤ length ws)
    (e : ws₁ ≡ put_mid (SLOT * k + 1) (SLOT * k + 5 - (SLOT * k + 1)) ws (numbers o)) where
  abbrev at : ℕ
  at = SLOT * k + 1

  abbrev again : List ℕ
  again = set ws₁ (SLOT * k + 39) v

  stored : ws₁ ≡ sets ws at (numbers o)
  stored = e ∙ part_stored ws at (SLOT * k + 5) (numbers o) (omega (arith, four o)) (omega arith)

  long : length ws₁ ≡ length ws
  long = ap length stored ∙ length-sets ws at (numbers o)

  kept : (i : ℕ) → (i ≤ SLOT * k) ⊎ ((SLOT * k + 5 ≤ i) × (i ≡ SLOT * k + 39 → ⊥)) → get_or again i 0 ≡ get_or ws i 0
  kept i h =
      get_or-set_other ws₁ (SLOT * k + 39) i v 0 (apart h) ∙ ap (λ l. get_or l i 0) stored ∙ getD_sets_other ws at (numbers o) i (past h)
    where
      apart : (i ≤ SLOT * k) ⊎ ((SLOT * k + 5 ≤ i) × (i ≡ SLOT * k + 39 → ⊥)) → i ≡ SLOT * k + 39 → ⊥
      apart (inl p) q = omega arith
      apart (inr p) q = p.1 q

      past : (i ≤ SLOT * k) ⊎ ((SLOT * k + 5 ≤ i) × (i ≡ SLOT * k + 39 → ⊥)) → at ≤ i → at + length (numbers o) ≤ i
      past (inl p) q = omega arith
      past (inr p) q = omega (arith, four o)

  pub rewrites : Rewrites ws again k o v
  rewrites =
      record {
        size = length-set ws₁ (SLOT * k + 39) v ∙ long;
        kept = kept;
        origin =
            origin_back again at o
            (λ i h.
            get_or-set_other ws₁ (SLOT * k + 39) (at + i) v 0 (λ q. omega arith) ∙ ap (λ l. get_or l (at + i) 0) stored
            ∙ get_d_sets ws at (numbers o) i (omega (arith, four o)) (omega (arith, four o)));
        value = get_or-set_same ws₁ (SLOT * k + 39) v 0 (omega (arith, long));
      }

-- an origin and a value are written: which numbers of the slots stay, and what they say
module _ {ws ws' : List ℕ} {k : ℕ} {o : Origin} {v : ℕ} (R : Rewrites ws ws' k o v) where
  -- the numbers of the index and the run
  pub behind_kept : (j i : ℕ) → 5 ≤ i → i < 39 → get_or ws' (SLOT * j + i) 0 ≡ get_or ws (SLOT * j + i) 0
  behind_kept j i low high = go (below? j k)
    where
      go : (j < k) ⊎ (k ≤ j) → get_or ws' (SLOT * j + i) 0 ≡ get_or ws (SLOT * j + i) 0
      go (inl h) = R.kept (SLOT * j + i) (inl (omega arith))
      go (inr h) = R.kept (SLOT * j + i) (inr (omega arith, λ e. omega arith))

  length_kept : (j : ℕ) → get_or ws' (SLOT * j) 0 ≡ get_or ws (SLOT * j) 0
  length_kept j = go (below? k j)
    where
      go : (k < j) ⊎ (j ≤ k) → get_or ws' (SLOT * j) 0 ≡ get_or ws (SLOT * j) 0
      go (inl h) = R.kept (SLOT * j) (inr (omega arith, λ e. omega arith))
      go (inr h) = R.kept (SLOT * j) (inl (omega arith))

  other_kept : (j i : ℕ) → (j ≡ k → ⊥) → i < SLOT → get_or ws' (SLOT * j + i) 0 ≡ get_or ws (SLOT * j + i) 0
  other_kept j i n h = go (below? j k)
    where
      go : (j < k) ⊎ (k ≤ j) → get_or ws' (SLOT * j + i) 0 ≡ get_or ws (SLOT * j + i) 0
      go (inl p) = R.kept (SLOT * j + i) (inl (omega arith))
      go (inr p) = let q : k < j = omega (arith, n) in R.kept (SLOT * j + i) (inr (omega arith, λ e. omega arith))

  pub run_stays : (j : ℕ) (t : Term) → Spells ws j t → Spells ws' j t
  run_stays j t s =
      record {
        count = length_kept j ∙ s.count;
        small = s.small;
        held =
            holds_part s.held.fine
            (front_same (drop (SLOT * j + 8) ws) (drop (SLOT * j + 8) ws') (size t)
            (length-drop (SLOT * j + 8) ws' ∙ ap (λ n. n - (SLOT * j + 8)) R.size ∙ sym (length-drop (SLOT * j + 8) ws))
            (λ i h.
            get_or-drop (SLOT * j + 8) ws' i 0 ∙ number j i (omega (arith, s.small)) ∙ sym (get_or-drop (SLOT * j + 8) ws i 0))
            ∙ (held_part (size t) s.held refl).whole);
      }
    where
      number : (j i : ℕ) → i < 31 → get_or ws' (SLOT * j + 8 + i) 0 ≡ get_or ws (SLOT * j + 8 + i) 0
      number j i h = let e : SLOT * j + 8 + i ≡ SLOT * j + (8 + i) = omega arith in rw e (behind_kept j (8 + i) (omega arith) (omega arith))

  pub origin_stays : (j : ℕ) → (j ≡ k → ⊥) → origin_of ws' j ≡ origin_of ws j
  origin_stays j n =
      origin_same ws ws' (SLOT * j + 1)
      (λ i h. let e : SLOT * j + 1 + i ≡ SLOT * j + (1 + i) = omega arith in rw e (other_kept j (1 + i) n (omega arith)))

  pub value_stays : (j : ℕ) → (j ≡ k → ⊥) → value_of ws' j ≡ value_of ws j
  value_stays j n = other_kept j 39 n (omega arith)

-- what the stores of `write_slot` leave: ws₂ with length, origin and value, ws' with the run
module _ (ws ws₂ ws' : List ℕ) (k : ℕ) (xs : List ℕ) (o : Origin) (v : ℕ) (room : SLOT * k + SLOT ≤ length ws) (short : length xs ≤ 31)
    (R : Rewrites (set ws (SLOT * k) (length xs)) ws₂ k o v) (f : ws' ≡ put_mid (SLOT * k + 8) (SLOT * k + 8 + length xs - (SLOT * k + 8)) ws₂ xs) where
  abbrev a : ℕ
  a = SLOT * k

  abbrev m : ℕ
  m = a + 8 + length xs

  before_long : length ws₂ ≡ length ws
  before_long = R.size ∙ length-set ws a (length xs)

  run_put : ws' ≡ sets ws₂ (a + 8) xs
  run_put = f ∙ part_stored ws₂ (a + 8) m xs refl (omega (arith, before_long))

  size_kept : length ws' ≡ length ws
  size_kept = ap length run_put ∙ length-sets ws₂ (a + 8) xs ∙ before_long

  -- the run leaves the numbers before it and the value
  unrun : (i : ℕ) → (a + 8 ≤ i → a + 39 ≤ i) → get_or ws' i 0 ≡ get_or ws₂ i 0
  unrun i h = ap (λ l. get_or l i 0) run_put ∙ getD_sets_other ws₂ (a + 8) xs i (λ q. let z = h q in omega arith)

  unwritten : (i : ℕ) → (i ≡ a → ⊥) → (i ≤ a) ⊎ ((a + 5 ≤ i) × (i ≡ a + 39 → ⊥)) → (a + 8 ≤ i → a + 39 ≤ i) → get_or ws' i 0 ≡ get_or ws i 0
  unwritten i n p h = unrun i h ∙ R.kept i p ∙ get_or-set_other ws a i (length xs) 0 n

  front_length : length (take (a + 8) ws₂) ≡ a + 8
  front_length = length-take-le (a + 8) ws₂ (omega (arith, before_long))

  whole : take m ws' ≡ take (a + 8) ws₂ ++ xs
  whole = ap (take m) run_put ∙ take_stored ws₂ (a + 8) xs (omega (arith, before_long))

  new_run : (t : Term) → IsRun xs t → Spells ws' k t
  new_run t h =
      record {
        count = unrun a (λ q. omega arith) ∙ R.kept a (inl (omega arith)) ∙ get_or-set_same ws a (length xs) 0 (omega arith) ∙ size_of h;
        small = omega (arith, size_of h);
        held =
            let j : m - (a + 8) ≡ size t = omega (arith, size_of h) in
            holds_part h.fine (rw j at (front_part ws' (take (a + 8) ws₂) xs (a + 8) m whole front_length (omega arith) (omega (arith, size_kept))) ∙ h.whole);
      }

  -- numbers 6 and 7 of each slot stay
  apart : (j i : ℕ) → 6 ≤ i → i ≤ 7 → get_or ws' (SLOT * j + i) 0 ≡ get_or ws (SLOT * j + i) 0
  apart j i low high =
      unrun (SLOT * j + i) (λ q. omega arith) ∙ behind_kept R j i (omega arith) (omega arith)
      ∙ get_or-set_other ws a (SLOT * j + i) (length xs) 0 (λ e. omega arith)

  pub writes : Writes ws ws' k xs o v
  writes =
      record {
        size = size_kept;
        kept = front_same ws ws' a size_kept (λ i h. unwritten i (λ e. omega arith) (inl (omega arith)) (λ q. omega arith));
        index = apart;
        run = new_run;
        origin = origin_same ws₂ ws' (a + 1) (λ i h. unrun (a + 1 + i) (λ q. omega arith)) ∙ R.origin;
        value = unrun (a + 39) (λ q. omega arith) ∙ R.value;
      }

-- the slots before a new one keep what they have

module _ (ws ws' : List ℕ) (count : ℕ) (e : take (SLOT * count) ws' ≡ take (SLOT * count) ws) where
  pub run_kept : (k : ℕ) (t : Term) → k < count → Spells ws k t → Spells ws' k t
  run_kept k t h s =
      record {
        count = front_getD ws ws' (SLOT * count) (SLOT * k) e (omega arith) ∙ s.count;
        small = s.small;
        held = front_holds ws ws' (SLOT * count) e (omega (arith, s.small)) s.held;
      }

  pub origin_kept : (k : ℕ) → k < count → origin_of ws' k ≡ origin_of ws k
  origin_kept k h = origin_front ws ws' (SLOT * count) (SLOT * k + 1) e (omega arith)

  pub value_kept : (k : ℕ) → k < count → value_of ws' k ≡ value_of ws k
  value_kept k h = front_getD ws ws' (SLOT * count) (SLOT * k + 39) e (omega arith)
