-- The kept count set anew, behind a place that was written to.
use Rattle.std.proofs.Common.{◌≡◌, ℕ, ◌+◌, ◌*◌, ◌<◌, ◌≤◌, ◌⊎◌, List, length, get_or, set, sym, ap, ◌∙◌, subst, ⊎_elim, arith, length-set, get_or-set_other, get_or-set_same, Some, None}
use Rattle.catalogue.specs.Catalogue.{PLACES}
use Rattle.catalogue.specs.Stored.{ROOM, PLACE, COUNT, LENGTH, number_at, KindAt, Elsewhere}
use Rattle.catalogue.specs.Promises.{AnotherOf, Stores, PutsAt, TakesOut}
use Rattle.catalogue.specs.Theory.Rewritten.{kind_still}

-- the count m is set where the numbers of place k alone were changed
module _ {cat cat₁ : List ℕ} {k : ℕ} (whole : length cat ≡ LENGTH) (inside : k < PLACES) (E : Elsewhere cat cat₁ k) (m : ℕ) where
  counted_still : (i : ℕ) → i < COUNT → get_or (set cat₁ COUNT m) i 0 ≡ get_or cat₁ i 0
  counted_still i h = get_or-set_other cat₁ COUNT i m 0 (λ e. omega arith)

  counted_length : length (set cat₁ COUNT m) ≡ length cat₁
  counted_length = length-set cat₁ COUNT m

  counted_elsewhere : Elsewhere cat (set cat₁ COUNT m) k
  counted_elsewhere =
      record {
        size = counted_length ∙ E.size;
        before = λ i h. counted_still i (omega arith) ∙ E.before i h;
        behind = λ i h l. counted_still i l ∙ E.behind i h l;
        spare = λ i low high. counted_still (PLACE * k + i) (omega arith) ∙ E.spare i low high;
      }

  counted_number : number_at (set cat₁ COUNT m) k ≡ number_at cat₁ k
  counted_number = counted_still (PLACE * k) (omega arith)

  counted_kind : {n : ℕ} {left right : List ℕ} → length left ≤ ROOM → length right ≤ ROOM → KindAt cat₁ k n left right → KindAt (set cat₁ COUNT m) k n left right
  counted_kind = kind_still cat₁ (set cat₁ COUNT m) counted_length k (λ i low high. counted_still i (omega arith))

  counted_count : get_or (set cat₁ COUNT m) COUNT 0 ≡ m
  counted_count = get_or-set_same cat₁ COUNT m 0 (omega (arith, E.size))

-- an entry was stored, and the count set
pub put_counted : {cat cat₁ : List ℕ} {k n key : ℕ} {left right : List ℕ} → length cat ≡ LENGTH → k < PLACES → length left ≤ ROOM → length right ≤ ROOM
    → Stores cat k n key left right cat₁ → (m : ℕ)
    → (AnotherOf cat None key left right × (m ≡ get_or cat COUNT 0))
    ⊎ ((AnotherOf cat None key left right → ⊥) × (get_or cat COUNT 0 < 4294967295 → m ≡ get_or cat COUNT 0 + 1))
    → {r : ℕ} {cat₂ : List ℕ} → (r ≡ m) × (cat₂ ≡ set cat₁ COUNT m) → PutsAt cat k n key left right (100 + r) cat₂
put_counted {cat} {cat₁} {k} {n} {key} {left} {right} whole inside left_room right_room S m counted {r} (e, f) =
    let E = S.elsewhere in
    let c = counted_count whole inside E m in
    subst (PutsAt cat k n key left right (100 + r)) (sym f)
    (record {
      elsewhere = counted_elsewhere whole inside E m;
      number = counted_number whole inside E m ∙ S.number;
      kind = counted_kind whole inside E m left_room right_room S.kind;
      known = λ a. c ∙ ⊎_elim (λ h. h.1) (λ h. absurd (h.0 a)) counted;
      new = λ a l. c ∙ ⊎_elim (λ h. absurd (a h.0)) (λ h. h.1 l) counted;
      returns = ap (λ n. 100 + n) (e ∙ sym c);
    })

-- a place was freed, and the count set
freed : (cat : List ℕ) (k : ℕ) → Elsewhere cat (set cat (PLACE * k) 0) k
freed cat k =
    record {
      size = length-set cat (PLACE * k) 0;
      before = λ i h. get_or-set_other cat (PLACE * k) i 0 0 (λ e. omega arith);
      behind = λ i h l. get_or-set_other cat (PLACE * k) i 0 0 (λ e. omega arith);
      spare = λ i low high. get_or-set_other cat (PLACE * k) (PLACE * k + i) 0 0 (λ e. omega arith);
    }

pub taken_counted : {cat : List ℕ} {k : ℕ} → length cat ≡ LENGTH → k < PLACES → (m : ℕ)
    → ((key : ℕ) (left right : List ℕ) → KindAt cat k key left right → length left ≤ ROOM → length right ≤ ROOM
    → (AnotherOf cat (Some k) key left right × (m ≡ get_or cat COUNT 0))
    ⊎ ((AnotherOf cat (Some k) key left right → ⊥) × (0 < get_or cat COUNT 0 → m + 1 ≡ get_or cat COUNT 0)))
    → {r : ℕ} {cat₂ : List ℕ} → (r ≡ m) × (cat₂ ≡ set (set cat (PLACE * k) 0) COUNT m) → TakesOut cat k (100 + r) cat₂
taken_counted {cat} {k} whole inside m counted {r} (e, f) =
    let E = freed cat k in
    let c = counted_count whole inside E m in
    subst (TakesOut cat k (100 + r)) (sym f)
    (record {
      elsewhere = counted_elsewhere whole inside E m;
      free = counted_number whole inside E m ∙ get_or-set_same cat (PLACE * k) 0 0 (omega arith);
      shared = λ key left right K l h a. c ∙ ⊎_elim (λ q. q.1) (λ q. absurd (q.0 a)) (counted key left right K l h);
      last = λ key left right K l h a p. ap (λ n. n + 1) c ∙ ⊎_elim (λ q. absurd (a q.0)) (λ q. q.1 p) (counted key left right K l h);
      returns = ap (λ n. 100 + n) (e ∙ sym c);
    })
