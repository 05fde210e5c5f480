-- A number put into a list: what moves on, and the place that `insert` gives it.
use Prim.Native.Nat.{ℕ, suc, ◌+◌, ◌<◌, ◌≤◌, min, compare}
use native.Mathlib.Omega.{arith}
use native.Mathlib.Numerals.{add-one, one-add}
use mathlib.Core.Path.{◌≡◌, refl, sym, ap, ◌∙◌}
use mathlib.Core.Logic.{⊎_elim}
use mathlib.Core.List.{List, [], ◌∷◌, ◌++◌, append_assoc}
use lib.ListN.{length, take, drop, set, get_or, length-append, length-set, take-append-drop, drop_of_length-le}
use lib.Seq.{take_all, length-take-le, take-append_seam, take-suc, take-suc-set, drop-set-lt, take-append-le, drop-append-le, take_at, append_snoc, drop-cons, get_or-take}
use borrow.Author.Tests.{lt-leb, le-leb, leb-true, not-false}
use Rattle.std.specs.Prelude.{not, Some, None, nat_le}
use Rattle.std.specs.List.{position_or_len}
use Rattle.std.proofs.lemmas.List.Sums.{prefix_len_stops, prefix_len-le-length}
use Rattle.std.proofs.lemmas.List.{take_min}
use Rattle.terms.proofs.Positions.{drop_one}
use Rattle.terms.specs.Compare.{eq}
use Rattle.terms.specs.Sort.{lost, repeat, insert}
use Rattle.terms.specs.Numbers.{put_in}
use Rattle.terms.specs.Promises.{Fills}
use Rattle.terms.specs.Theory.Order.{flip_lt, compare_order, compare_below, below?}
use Rattle.terms.specs.Theory.Insert.{insert_lt, insert_eq, insert_gt}

-- x still to be put in at i, to make the list l
module _ (s : List ℕ) (i x : ℕ) (l : List ℕ) (e : put_in i x s ≡ l) where
  pub put_next : i < length s → put_in (i + 1) (get_or s i 0) (set s i x) ≡ l
  unfolding put_in
  put_next h =
      let front : take (suc i) (set s i x) ++ drop i s ≡ take i s ++ (x ∷ drop i s) = rw (take-suc-set s i x h) (append_snoc (take i s) x (drop i s)) in
      rw (length-set s i x, add-one i, drop-set-lt (suc i) s i x (omega arith), ← (drop-cons s i 0 h), front) e

  pub put_end : length s ≤ i → s ≡ l
  unfolding put_in
  put_end h = rw (take_all i s h, take-append_seam s (x ∷ drop i s)) at e

-- the place that `insert` gives x

abbrev pub inserted : ℕ → List ℕ → List ℕ
inserted = insert lost compare

-- x goes between the first i numbers and the others
abbrev pub Between : ℕ → List ℕ → ℕ → Type 0
Between x ys i = inserted x ys ≡ take i ys ++ (x ∷ drop i ys)

-- the place of the first number that is not below x, or the end: x is there, or goes there

abbrev pub place : ℕ → List ℕ → ℕ
place x = position_or_len (nat_le x)

behind_place : (x : ℕ) (ys : List ℕ) → inserted x ys ≡ take (place x ys) ys ++ inserted x (drop (place x ys) ys)
behind_place x [] = refl
behind_place x (y ∷ ys) =
    ⊎_elim
    (λ h. rw (lt-leb x y h, one-add (place x ys), insert_gt lost compare ys (flip_lt compare_order (compare_below y x h))) (ap (λ l. y ∷ l) (behind_place x ys)))
    (λ h. rw (le-leb x y h))
    (below? y x)

module _ (x : ℕ) (ys : List ℕ) (i : ℕ) (e : i ≡ place x ys) where
  behind : inserted x ys ≡ take i ys ++ inserted x (drop i ys)
  behind = rw e (behind_place x ys)

  place_met : i < length ys → get_or ys i 0 ≡ x → inserted x ys ≡ ys
  unfolding repeat
  place_met h g = behind ∙ rw (drop_one ys i h, insert_eq lost compare (drop (i + 1) ys) tie, ← (drop_one ys i h)) (take-append-drop i ys)
    where
      tie : compare x (get_or ys i 0) ≡ eq
      tie = rw g (compare_order.reflexive x)

  above : i < length ys → x ≤ get_or ys i 0
  above h = leb-true x (get_or ys i 0) (not-false (nat_le x (get_or ys i 0)) (rw e (prefix_len_stops (λ y. not (nat_le x y)) ys 0 (rw e at h))))

  place_between : (i < length ys → get_or ys i 0 ≡ x → ⊥) → Between x ys i
  unfolding insert
  place_between f =
      ⊎_elim
      (λ h. behind ∙ rw (drop_one ys i h, insert_lt lost compare (drop (i + 1) ys) (compare_below x (get_or ys i 0) (omega (arith, f h, above h)))))
      (λ h. behind ∙ rw (drop_of_length-le ys h))
      (below? i (length ys))

split_length : (x : ℕ) (ys : List ℕ) (i : ℕ) → length (take i ys ++ (x ∷ drop i ys)) ≡ length ys + 1
split_length x ys i =
    omega (arith, length-append (take i ys) (x ∷ drop i ys), length-append (take i ys) (drop i ys), ap length (take-append-drop i ys))

-- a list with room for one more
pub put_in_room : (x : ℕ) (ys : List ℕ) (z i : ℕ) → i ≤ length ys → put_in i x (ys ++ (z ∷ [])) ≡ take i ys ++ (x ∷ drop i ys)
unfolding put_in
put_in_room x ys z i h =
    rw (take-append-le i ys (z ∷ []) h, drop-append-le i ys (z ∷ []) h, ← (append_assoc (take i ys) (x ∷ drop i ys) (z ∷ [])))
    (take_at (take i ys ++ (x ∷ drop i ys)) (z ∷ []) (length (ys ++ (z ∷ []))) (split_length x ys i ∙ sym (length-append ys (z ∷ []))))

-- the promise of `insert`, where the first n numbers end at m and `at` is the place for x among them

module _ (xs : List ℕ) (n x m at : ℕ) (ends : m ≡ min n (length xs)) (placed : at ≡ place x (take m xs)) where
  front : take m xs ≡ take n xs
  front = rw ends (take_min n xs)

  front_length : length (take m xs) ≡ m
  front_length = length-take-le m xs (omega arith)

  pub fills_met : at < m → get_or xs at 0 ≡ x → Fills (inserted x (take n xs)) xs (Some m) xs
  fills_met h g =
      let e : inserted x (take m xs) ≡ take m xs =
      place_met x (take m xs) at placed (omega (arith, front_length)) (get_or-take m xs at 0 h ∙ g) in
      rw (← front, e) (sym front_length, omega arith, sym (take-append-drop m xs))

  module _ (apart : at < m → get_or xs at 0 ≡ x → ⊥) where
    between : Between x (take m xs) at
    between = place_between x (take m xs) at placed (λ h g. let k : at < m = omega (arith, front_length) in apart k (sym (get_or-take m xs at 0 k) ∙ g))

    longer : length (inserted x (take m xs)) ≡ m + 1
    longer = omega (arith, ap length between ∙ split_length x (take m xs) at, front_length)

    pub fills_many : length xs ≤ m → Fills (inserted x (take n xs)) xs None xs
    fills_many h = rw (← front) (omega (arith, longer), refl)

    pub fills_more : m < length xs → (s : List ℕ) → s ≡ put_in at x (take (m + 1) xs)
        → Fills (inserted x (take n xs)) xs (Some (m + 1)) (s ++ drop (m + 1) xs)
    fills_more h s d =
        let g : at ≤ m = omega (arith, placed, front_length, prefix_len-le-length (λ y. not (nat_le x y)) (take m xs)) in
        let part : take (m + 1) xs ≡ take m xs ++ (get_or xs m 0 ∷ []) = rw add-one (take-suc xs m 0 h) in
        let whole : s ≡ inserted x (take m xs) =
        d ∙ ap (put_in at x) part ∙ put_in_room x (take m xs) (get_or xs m 0) at (omega (arith, front_length)) ∙ sym between in
        rw (← front) (sym longer, omega arith, rw whole)
