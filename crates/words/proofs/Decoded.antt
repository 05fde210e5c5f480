-- The permutations are those decoded from the numbers below the factorial, in order; so the least renaming is the least of the numbered candidates.
use Rattle.std.proofs.Common.{◌≡◌, ℕ, zero, suc, ◌+◌, ◌-◌, ◌*◌, ◌/◌, ◌%◌, ◌<◌, ◌≤◌, ◌⊎◌, List, [], ◌∷◌, ◌++◌, map, length, get_or, take, drop, refl, ap, ◌∙◌, ap₂, inl, inr, ⊎_elim, mod-eq_of_lt, suc-mul, mul-pos, arith, length-append, length-drop, take-append-drop, length-take}
use native.Mathlib.Nat.{mul-add-div_right, mul-add-mod_self_right, div-eq_of_lt}
use mathlib.Core.List.{map-map, map-append, foldl, flat_map}
use Rattle.std.proofs.lemmas.List.{get_or-map}
use Rattle.std.proofs.lemmas.List.Folds.{flat_map-map}
use Rattle.terms.specs.Lists.{◌∈◌, not-in-nil, cons-cases, append_cases, in_left, in_right}
use Rattle.terms.specs.Compare.{Ordering}
use Rattle.terms.specs.Equation.{Equation}
use Rattle.words.specs.Rename.{count_from, everywhere, permutations, lesser, by_renaming, least}
use Rattle.words.specs.Decoded.{place_in, decoded, factorial, least_to}

-- counting

-- two functions that give the same along two counts
map_counts : {B : Type 0} (f g : ℕ → B) (k i j : ℕ) → ((r : ℕ) → r < k → f (i + r) ≡ g (j + r)) → map f (count_from k i) ≡ map g (count_from k j)
unfolding count_from
map_counts f g zero i j h = refl
map_counts f g (suc k) i j h =
    let a : i + 0 ≡ i = omega arith in
    let b : j + 0 ≡ j = omega arith in
    ap₂ ◌∷◌ (rw (a, b) at (h 0 (omega arith)))
    (map_counts f g k (suc i) (suc j)
    (λ r l.
    let c : suc i + r ≡ i + suc r = omega arith in
    let d : suc j + r ≡ j + suc r = omega arith in
    rw (c, d) (h (suc r) (omega arith))))

pub count_from_add : (k m i : ℕ) → count_from (k + m) i ≡ count_from k i ++ count_from m (i + k)
unfolding count_from
count_from_add zero m i =
    let d : 0 + m ≡ m = omega arith in
    let e : i + 0 ≡ i = omega arith in
    rw (d, e)
count_from_add (suc k) m i =
    let d : suc k + m ≡ suc (k + m) = omega arith in
    let e : suc i + k ≡ i + suc k = omega arith in
    rw d (ap (i ∷◌) (count_from_add k m (suc i) ∙ rw e))

row_item : {B : Type 0} (f : ℕ → ℕ → B) (w q r : ℕ) → 0 < w → r < w → f q (0 + r) ≡ f ((q * w + r) / w) ((q * w + r) % w)
row_item f w q r h l =
    let d : (q * w + r) / w ≡ q = omega (arith, mul-add-div_right h q r, div-eq_of_lt l) in
    let m : (q * w + r) % w ≡ 0 + r = omega (arith, mul-add-mod_self_right q w r, mod-eq_of_lt l) in
    rw (d, m)

-- m rows of w items are counted by one number
rows : {B : Type 0} (f : ℕ → ℕ → B) (w m q : ℕ) → 0 < w
    → flat_map (λ p. map (f p) (count_from w 0)) (count_from m q) ≡ map (λ c. f (c / w) (c % w)) (count_from (m * w) (q * w))
unfolding count_from flat_map
rows f w zero q h = let e : 0 * w ≡ 0 = omega arith in rw e
rows {B} f w (suc m) q h =
    let at : ℕ → B = λ c. f (c / w) (c % w) in
    let d : suc m * w ≡ w + m * w = omega (arith, suc-mul m w) in
    rw (d, count_from_add w (m * w) (q * w), map-append at, ← suc-mul q w)
    (ap₂ ◌++◌ (map_counts (f q) at w 0 (q * w) (λ r l. row_item f w q r h l)) (rows f w m (suc q) h))

-- a number at every place

everywhere_placed : (n : ℕ) (ms : List ℕ) → everywhere n ms ≡ map (λ p. place_in p n ms) (count_from (suc (length ms)) 0)
unfolding everywhere place_in count_from
everywhere_placed n [] = refl
everywhere_placed n (m ∷ ms) =
    ap ((n ∷ m ∷ ms) ∷◌)
    (ap (map (m ∷◌)) (everywhere_placed n ms)
    ∙ map-map (m ∷◌) (λ p. place_in p n ms) (count_from (suc (length ms)) 0)
    ∙ map_counts (λ p. m ∷ place_in p n ms) (λ p. place_in p n (m ∷ ms)) (suc (length ms)) 0 1 (λ r l. let c : 1 + r ≡ suc (0 + r) = omega arith in rw c))

place_in_length : (p n : ℕ) (ms : List ℕ) → length (place_in p n ms) ≡ suc (length ms)
unfolding place_in
place_in_length p n ms = simp (length-append, length-take, length-drop) (omega arith)

pub decoded_length : (k i c : ℕ) → length (decoded k i c) ≡ k
unfolding decoded
decoded_length zero i c = refl
decoded_length (suc k) i c =
    place_in_length (c % suc k) i (decoded k (suc i) (c / suc k)) ∙ ap suc (decoded_length k (suc i) (c / suc k))

in_place_in : {x : ℕ} (p n : ℕ) (ms : List ℕ) → x ∈ place_in p n ms → (x ≡ n) ⊎ x ∈ ms
unfolding place_in
in_place_in {x} p n ms m =
    ⊎_elim
    (λ (k : x ∈ take p ms). inr (rw (take-append-drop p ms) at (in_left (drop p ms) k)))
    (λ k. ⊎_elim inl (λ (j : x ∈ drop p ms). inr (rw (take-append-drop p ms) at (in_right (take p ms) j))) (cons-cases k))
    (append_cases (take p ms) m)

-- the numbers of a permutation of those from i on
pub decoded_below : (k i c : ℕ) {n : ℕ} → n ∈ decoded k i c → n < i + k
unfolding decoded
decoded_below zero i c m = absurd (not-in-nil m)
decoded_below (suc k) i c m =
    ⊎_elim (λ e. omega arith) (λ j. omega (arith, decoded_below k (suc i) (c / suc k) j))
    (in_place_in (c % suc k) i (decoded k (suc i) (c / suc k)) m)

-- the permutations by number

pub permutations_decoded : (k i : ℕ) → permutations (count_from k i) ≡ map (decoded k i) (count_from (factorial k) 0)
unfolding permutations decoded factorial count_from
permutations_decoded zero i = refl
permutations_decoded (suc k) i =
    let e : 0 * suc k ≡ 0 = omega arith in
    ap (flat_map (everywhere i)) (permutations_decoded k (suc i))
    ∙ flat_map-map (everywhere i) (decoded k (suc i)) (count_from (factorial k) 0)
    ∙ simp (everywhere_placed, decoded_length)
    (rw e at (rows (λ q p. place_in p i (decoded k (suc i) q)) (suc k) (factorial k) 0 (omega arith)))

-- the least of the candidates

module _ {A : Type 0} (o : A → A → Ordering) where
  fold_least_to : (candidate : ℕ → Equation A) (m j : ℕ)
      → foldl (lesser o) (least_to o candidate j) (map candidate (count_from m (suc j))) ≡ least_to o candidate (j + m)
  unfolding count_from least_to
  fold_least_to candidate zero j = let e : j + 0 ≡ j = omega arith in rw e
  fold_least_to candidate (suc m) j = let e : j + suc m ≡ suc j + m = omega arith in rw e (fold_least_to candidate m (suc j))

pub factorial_positive : (k : ℕ) → 0 < factorial k
unfolding factorial
factorial_positive zero = omega arith
factorial_positive (suc k) = mul-pos (factorial_positive k) (omega arith)

module _ {A : Type 0} (o : A → A → Ordering) (rename : (ℕ → ℕ) → A → A) (names : List ℕ) (s t : A) where
  -- candidate number c
  abbrev pub numbered : ℕ → Equation A
  numbered c = by_renaming o rename names s t (decoded (length names) 0 c)

  pub least_numbered : least o rename names s t ≡ least_to o numbered (factorial (length names) - 1)
  unfolding least least_to
  least_numbered =
      let k = length names in
      let by = by_renaming o rename names s t in
      ap pick (ap (map by) (permutations_decoded k 0) ∙ map-map by (decoded k 0) (count_from (factorial k) 0))
      ∙ go (factorial k) (factorial_positive k)
    where
      pick : List (Equation A) → Equation A
      pick es = elim es [ [] ↦ record { left = s; right = t } | e ∷ es ↦ foldl (lesser o) e es ]

      go : (n : ℕ) → 0 < n → pick (map numbered (count_from n 0)) ≡ least_to o numbered (n - 1)
      go zero h = absurd (omega arith)
      go (suc m) h = let e : 0 + m ≡ suc m - 1 = omega arith in fold_least_to o numbered m 0 ∙ rw e

-- the factorials listed

getD_count : (k i c : ℕ) → c < k → get_or (count_from k i) c 0 ≡ i + c
unfolding count_from
getD_count zero i c h = absurd (omega arith)
getD_count (suc k) i zero h = omega arith
getD_count (suc k) i (suc c) h = omega (arith, getD_count k (suc i) c (omega arith))

pub factorial_listed : (k : ℕ) → k ≤ 6 → get_or (1 ∷ 1 ∷ 2 ∷ 6 ∷ 24 ∷ 120 ∷ 720 ∷ []) k 0 ≡ factorial k
unfolding factorial count_from
factorial_listed k h =
    let e : get_or (count_from 7 0) k 0 ≡ k = omega (arith, getD_count 7 0 k (omega arith)) in
    get_or-map factorial (count_from 7 0) k 0 0 (omega arith) ∙ ap factorial e
