-- One place of the catalogue written anew: the other places hold what they held.
use Rattle.std.specs.Prelude.{◌≡◌, ℕ, ◌+◌, ◌*◌, ◌<◌, ◌≤◌, Bool, true, false, List, length, get_or, take, drop, ◌==◌, ◌≢◌, slice_index, slice_index_or, slice_set}
use Rattle.std.proofs.Common.{arith, sym, ap, subst, ◌∙◌, ⊎_elim, length-set, length-take, length-drop, ext_get_or, get_or-take, get_or-drop, get_or-set_same, get_or-set_other}
use Rattle.std.proofs.Math.Option.{Option, none, some}
use Rattle.terms.specs.Theory.Reflects.{Reflects, eqb_reflects}
use Rattle.terms.specs.Theory.Order.{below?}
use Rattle.catalogue.specs.Catalogue.{PLACES, Entry, Catalogue}
use Rattle.catalogue.specs.Texts.{Kind}
use Rattle.catalogue.specs.Stored.{PLACE, ROOM, COUNT, KindAt, At, Holds, Elsewhere}

-- parts of two lists that have the same numbers there
pub part_same : (xs ys : List ℕ) (a n : ℕ) → length xs ≡ length ys → ((i : ℕ) → a ≤ i → i < a + n → slice_index xs i ≡ slice_index ys i) → take n (drop a xs) ≡ take n (drop a ys)
part_same xs ys a n e h =
    ext_get_or 0 (take n (drop a xs)) (take n (drop a ys)) (simp (length-take, length-drop) (omega arith))
    (λ i l.
    let s : i < n = omega (arith, simp (length-take, length-drop) at l) in
    get_or-take n (drop a xs) i 0 s ∙ get_or-drop a xs i 0 ∙ h (a + i) (omega arith) (omega arith) ∙ sym (get_or-take n (drop a ys) i 0 s ∙ get_or-drop a ys i 0))

module _ (cat cat' : List ℕ) (size : length cat' ≡ length cat) (j : ℕ) (same : (i : ℕ) → PLACE * j ≤ i → i < PLACE * j + PLACE → slice_index cat' i ≡ slice_index cat i) where
  -- a place whose numbers stay has the lists that it had
  pub kind_still : {n : ℕ} {left right : List ℕ} → length left ≤ ROOM → length right ≤ ROOM → KindAt cat j n left right → KindAt cat' j n left right
  kind_still {left = left} {right = right} fits fits' K =
      record {
        key = same (PLACE * j + 1) (omega arith) (omega arith) ∙ K.key;
        left_size = same (PLACE * j + 2) (omega arith) (omega arith) ∙ K.left_size;
        right_size = same (PLACE * j + 3) (omega arith) (omega arith) ∙ K.right_size;
        left_numbers = part_same cat' cat (PLACE * j + 8) (length left) size (λ i low high. same i (omega arith) (omega arith)) ∙ K.left_numbers;
        right_numbers = part_same cat' cat (PLACE * j + 2708) (length right) size (λ i low high. same i (omega arith) (omega arith)) ∙ K.right_numbers;
      }

  pub place_still : (p : Option (Entry Kind)) → At cat j p → At cat' j p
  place_still none h = same (PLACE * j) (omega arith) (omega arith) ∙ h
  place_still (some e) S =
      record {
        number = same (PLACE * j) (omega arith) (omega arith) ∙ S.number;
        listed = S.listed;
        left = S.left;
        right = S.right;
        left_room = S.left_room;
        right_room = S.right_room;
        kind = kind_still S.left_room S.right_room S.kind;
        lines = S.lines;
      }

-- place k is free now, or has an entry, and the kept count is n
pub rewritten : {cat cat' : List ℕ} {c : Catalogue Kind} (k : ℕ) → k < PLACES → Holds cat c → Elsewhere cat cat' k
    → (p : Option (Entry Kind)) → At cat' k p → (n : ℕ) → slice_index cat' COUNT ≡ n → Holds cat' (record { places = slice_set c.places k p; kept = n })
rewritten {cat} {cat'} {c} k inside H E p A n e =
    record {
      size = E.size ∙ H.size;
      count = length-set c.places k p ∙ H.count;
      places = λ j h. go j h (j == k) (eqb_reflects j k);
      spare = λ j h i low high. spare j h i low high (j == k) (eqb_reflects j k) ∙ H.spare j h i low high;
      kept = e;
    }
  where
    other : (j : ℕ) → j < PLACES → (j ≢ k) → (i : ℕ) → PLACE * j ≤ i → i < PLACE * j + PLACE → slice_index cat' i ≡ slice_index cat i
    other j h ne i low high =
        ⊎_elim (λ b. E.before i (omega arith)) (λ b. ⊎_elim (λ g. E.behind i (omega arith) (omega arith)) (λ g. absurd (ne (omega arith))) (below? k j)) (below? j k)

    spare : (j : ℕ) → j < PLACES → (i : ℕ) → 4 ≤ i → i < 8 → (b : Bool) → Reflects (j ≡ k) b → slice_index cat' (PLACE * j + i) ≡ slice_index cat (PLACE * j + i)
    spare j h i low high true q = subst (λ l. slice_index cat' (PLACE * l + i) ≡ slice_index cat (PLACE * l + i)) (sym q) (E.spare i low high)
    spare j h i low high false q = other j h q (PLACE * j + i) (omega arith) (omega arith)

    go : (j : ℕ) → j < PLACES → (b : Bool) → Reflects (j ≡ k) b → At cat' j (slice_index_or (slice_set c.places k p) j none)
    go j h true q =
        let s : get_or (slice_set c.places k p) j none ≡ p = ap (λ i. get_or (slice_set c.places k p) i none) q ∙ get_or-set_same c.places k p none (omega (arith, H.count)) in
        subst (λ o. At cat' j o) (sym s) (subst (λ i. At cat' i p) (sym q) A)
    go j h false q =
        let s : get_or (slice_set c.places k p) j none ≡ get_or c.places j none = get_or-set_other c.places k j p none q in
        subst (λ o. At cat' j o) (sym s) (place_still cat cat' E.size j (other j h q) (slice_index_or c.places j none) (H.places j h))
