-- The part of a list from a position on.
use Prim.Native.Nat.{ℕ, zero, suc, ◌+◌, ◌<◌}
use native.Mathlib.Omega.{arith}
use native.Mathlib.Numerals.{add-one}
use mathlib.Core.Path.{◌≡◌, sym, ap, ◌∙◌}
use mathlib.Core.List.{List, [], ◌∷◌, ◌++◌}
use lib.ListN.{length, take, drop, get_or}
use lib.Seq.{drop-drop, drop-append_seam, drop-cons, get_or-take}

pub drop_one : (xs : List ℕ) (i : ℕ) → i < length xs → drop i xs ≡ get_or xs i 0 ∷ drop (i + 1) xs
drop_one xs i h = rw (add-one, drop-cons xs i 0)

drop_head_suc : (xs : List ℕ) (i x : ℕ) (ys : List ℕ) → drop i xs ≡ x ∷ ys → (i < length xs) × (get_or xs i 0 ≡ x) × (drop (suc i) xs ≡ ys)
drop_head_suc [] zero x ys e = let z : ◌≡◌ {A = ℕ} 0 1 = cc in (omega arith, omega arith, cc)
drop_head_suc [] (suc i) x ys e = let z : ◌≡◌ {A = ℕ} 0 1 = cc in (omega arith, omega arith, cc)
drop_head_suc (a ∷ xs) zero x ys e = (omega arith, cc, cc)
drop_head_suc (a ∷ xs) (suc i) x ys e = let p = drop_head_suc xs i x ys e in (omega arith, p.1, p.2)

pub drop_head : (xs : List ℕ) (i x : ℕ) (ys : List ℕ) → drop i xs ≡ x ∷ ys → (i < length xs) × (get_or xs i 0 ≡ x) × (drop (i + 1) xs ≡ ys)
drop_head xs i x ys e = let p = drop_head_suc xs i x ys e in (p.0, p.1, rw add-one p.2)

pub drop_past : (xs us vs : List ℕ) (i : ℕ) → drop i xs ≡ us ++ vs → drop (i + length us) xs ≡ vs
drop_past xs us vs i e = sym (drop-drop (length us) i xs) ∙ ap (drop (length us)) e ∙ drop-append_seam us vs

-- where the first n numbers of two lists agree
pub front_getD : (xs ys : List ℕ) (n i : ℕ) → take n ys ≡ take n xs → i < n → get_or ys i 0 ≡ get_or xs i 0
front_getD xs ys n i e h = sym (get_or-take n ys i 0 h) ∙ ap (λ l. get_or l i 0) e ∙ get_or-take n xs i 0 h
