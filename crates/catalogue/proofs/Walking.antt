-- The places gone through: what was found, or that there is nothing.
use Rattle.std.proofs.Common.{◌≡◌, ℕ, ◌<◌, ◌≤◌, Bool, true, false, List, length, get_or, sym, subst, arith, Option, Some, None, MatchOption, MatchBool}
use Rattle.std.specs.List.{range_with_len, AllWithin, HoldsAt}
use Rattle.std.proofs.lemmas.List.FromFn.{length-range_with_len, get_or-range_with_len}
use Rattle.terms.specs.Theory.Reflects.{Reflects}
use Rattle.catalogue.specs.Catalogue.{PLACES}
use Rattle.catalogue.specs.Stored.{number_at}
use Rattle.catalogue.specs.Promises.{Seeks}

-- the first place with a number
pub place_found : (cat : List ℕ) (n : ℕ) (r : Option ℕ)
    → MatchOption r ((k : ℕ) → 0 ≤ k → k < PLACES → number_at cat k ≡ n → ⊥)
    (λ i. (0 ≤ i) × (i < PLACES) × (number_at cat i ≡ n) × ((k : ℕ) → 0 ≤ k → k < i → number_at cat k ≡ n → ⊥))
    → Seeks cat n r
place_found cat n None h = λ j l. h j (omega arith) l
place_found cat n (Some k) h = (h.1, h.2, λ j l. h.3 j (omega arith) l)

-- whether one of the first n is so
pub one_found : (P : ℕ → Type 0) (n : ℕ) (r : Bool)
    → MatchBool r ((k : ℕ) × (k < length (range_with_len 0 n)) × HoldsAt P (range_with_len 0 n) k)
    (AllWithin (λ k. P k → ⊥) (range_with_len 0 n) 0 (length (range_with_len 0 n)))
    → Reflects ((k : ℕ) × (k < n) × P k) r
one_found P n true (k, h, p) =
    let l : k < n = omega (arith, length-range_with_len 0 n) in
    let e : get_or (range_with_len 0 n) k 0 ≡ k = omega (arith, get_or-range_with_len 0 n k 0 l) in
    (k, l, subst P e (p 0))
one_found P n false h = λ (k, l, p).
    let e : get_or (range_with_len 0 n) k 0 ≡ k = omega (arith, get_or-range_with_len 0 n k 0 l) in
    h k 0 (omega arith) (omega (arith, length-range_with_len 0 n)) (subst P (sym e) p)
