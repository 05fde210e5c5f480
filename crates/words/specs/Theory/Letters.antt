-- The words of a side of 31 nodes, spelled, are at most 2,700 numbers, whatever becomes of repeats, and renaming makes no more of them.
use Rattle.std.specs.Prelude.{◌≡◌, ℕ, suc, ◌+◌, ◌-◌, ◌*◌, ◌≤◌, max, Bool, leb, List, [], ◌∷◌, ◌++◌, map, length, nat_le, slice_index, refl}
use Rattle.std.proofs.Common.{ap, add-mul, mul-le-mul, arith, leb→le, length-append}
use mathlib.Core.List.{foldr}
use Rattle.std.proofs.lemmas.List.{length-map}
use Rattle.terms.specs.Compare.{Ordering, lt, eq, gt}
use Rattle.terms.specs.Sort.{Repeats, kept, lost, repeat, insert, insert_all}
use Rattle.terms.specs.Term.{Term, letter, zero, one, add, mul, size}
use Rattle.words.specs.Words.{Word, order_words, products, normal, words_with, expand}
use Rattle.words.specs.Spelled.{spelled}
use Rattle.words.specs.Counts.{atoms, most}
use Rattle.words.specs.Rename.{rename_words}
use Rattle.words.specs.Theory.Expand.{words_expand}
use Rattle.words.specs.Theory.Bound.{size_atoms, every, every_at, expand_bound}

-- the letters of all words, and with 0 behind each word
abbrev letters_in : List Word → ℕ
letters_in = foldr (λ w n. length w + n) 0

abbrev numbers_in : List Word → ℕ
numbers_in = foldr (λ w n. suc (length w) + n) 0

spelled_numbers : (ws : List Word) → length (spelled ws) ≡ numbers_in ws
unfolding spelled
spelled_numbers [] = refl
spelled_numbers (w ∷ ws) = simp (length-append, length-map) (omega (arith, spelled_numbers ws))

-- the most letters and numbers that so many atoms give, up to 16
most_letters : ℕ → ℕ
most_letters n = slice_index (0 ∷ 1 ∷ 2 ∷ 4 ∷ 8 ∷ 14 ∷ 24 ∷ 40 ∷ 66 ∷ 108 ∷ 168 ∷ 270 ∷ 432 ∷ 648 ∷ 1026 ∷ 1620 ∷ 2376 ∷ []) n

most_numbers : ℕ → ℕ
most_numbers n = slice_index (0 ∷ 2 ∷ 4 ∷ 6 ∷ 12 ∷ 20 ∷ 32 ∷ 52 ∷ 84 ∷ 132 ∷ 204 ∷ 324 ∷ 504 ∷ 756 ∷ 1188 ∷ 1836 ∷ 2700 ∷ []) n

-- a sum or a product has no more of them than the table f allows it
allowed : (ℕ → ℕ) → ℕ → ℕ → Bool
unfolding most most_letters
allowed f i j = nat_le (max (f i + f j) (most_letters i * most j + most i * f j)) (f (i + j))

letters_allowed : (i j : ℕ) → i + j ≤ 16 → max (most_letters i + most_letters j) (most_letters i * most j + most i * most_letters j) ≤ most_letters (i + j)
unfolding every allowed
letters_allowed i j h = leb→le _ _ (every_at (17 - i) (allowed most_letters i) (every_at 17 (λ k. every (17 - k) (allowed most_letters k)) tt i (omega arith)) j (omega arith))

numbers_allowed : (i j : ℕ) → i + j ≤ 16 → max (most_numbers i + most_numbers j) (most_letters i * most j + most i * most_numbers j) ≤ most_numbers (i + j)
unfolding every allowed most_numbers
numbers_allowed i j h = leb→le _ _ (every_at (17 - i) (allowed most_numbers i) (every_at 17 (λ k. every (17 - k) (allowed most_numbers k)) tt i (omega arith)) j (omega arith))

numbers_bound : (n : ℕ) → n ≤ 16 → most_numbers n ≤ 2700
unfolding every most_numbers
numbers_bound n h = leb→le (most_numbers n) 2700 (every_at 17 (λ k. leb (most_numbers k) 2700) tt n (omega arith))

-- sums and products

letters_append : (us vs : List Word) → letters_in (us ++ vs) ≡ letters_in us + letters_in vs
letters_append [] vs = omega arith
letters_append (u ∷ us) vs = omega (arith, letters_append us vs)

numbers_append : (us vs : List Word) → numbers_in (us ++ vs) ≡ numbers_in us + numbers_in vs
numbers_append [] vs = omega arith
numbers_append (u ∷ us) vs = omega (arith, numbers_append us vs)

letters_map : (u : Word) (vs : List Word) → letters_in (map (u ++◌) vs) ≡ length u * length vs + letters_in vs
letters_map u [] = omega arith
letters_map u (v ∷ vs) = omega (arith, length-append u v, letters_map u vs)

numbers_map : (u : Word) (vs : List Word) → numbers_in (map (u ++◌) vs) ≡ length u * length vs + numbers_in vs
numbers_map u [] = omega arith
numbers_map u (v ∷ vs) = omega (arith, length-append u v, numbers_map u vs)

letters_products : (us vs : List Word) → letters_in (products us vs) ≡ letters_in us * length vs + length us * letters_in vs
unfolding products
letters_products [] vs = omega arith
letters_products (u ∷ us) vs = omega (arith, letters_append (map (u ++◌) vs) (products us vs), letters_map u vs, letters_products us vs, add-mul (length u) (letters_in us) (length vs))

numbers_products : (us vs : List Word) → numbers_in (products us vs) ≡ letters_in us * length vs + length us * numbers_in vs
unfolding products
numbers_products [] vs = omega arith
numbers_products (u ∷ us) vs = omega (arith, numbers_append (map (u ++◌) vs) (products us vs), numbers_map u vs, numbers_products us vs, add-mul (length u) (letters_in us) (length vs))

record Few (t : Term) : Type 0 where
  words : length (expand t) ≤ most (atoms t)
  letters : letters_in (expand t) ≤ most_letters (atoms t)
  numbers : numbers_in (expand t) ≤ most_numbers (atoms t)

expand_few : (t : Term) → atoms t ≤ 16 → Few t
unfolding expand atoms most most_letters most_numbers
expand_few (letter n) h = record { words = omega arith; letters = omega arith; numbers = omega arith }
expand_few zero h = record { words = omega arith; letters = omega arith; numbers = omega arith }
expand_few one h = record { words = omega arith; letters = omega arith; numbers = omega arith }
expand_few (add s t) h =
    let p = expand_few s (omega arith) in
    let q = expand_few t (omega arith) in
    record {
      words = expand_bound (add s t) h;
      letters = omega (arith, letters_append (expand s) (expand t), p.letters, q.letters, letters_allowed (atoms s) (atoms t) h);
      numbers = omega (arith, numbers_append (expand s) (expand t), p.numbers, q.numbers, numbers_allowed (atoms s) (atoms t) h);
    }
expand_few (mul s t) h =
    let p = expand_few s (omega arith) in
    let q = expand_few t (omega arith) in
    record {
      words = expand_bound (mul s t) h;
      letters = omega (arith, letters_products (expand s) (expand t), mul-le-mul p.letters q.words, mul-le-mul p.words q.letters, letters_allowed (atoms s) (atoms t) h);
      numbers = omega (arith, numbers_products (expand s) (expand t), mul-le-mul p.letters q.words, mul-le-mul p.words q.numbers, numbers_allowed (atoms s) (atoms t) h);
    }

-- sorting adds no numbers

insert_numbers : (r : Repeats) (w : Word) (ws : List Word) → numbers_in (insert r order_words w ws) ≤ suc (length w) + numbers_in ws
unfolding insert repeat
insert_numbers r w [] = omega arith
insert_numbers r w (v ∷ vs) = go r (order_words w v) (insert_numbers r w vs)
  where
    go : (r : Repeats) (o : Ordering) → numbers_in (insert r order_words w vs) ≤ suc (length w) + numbers_in vs
        → numbers_in (elim o [ lt ↦ w ∷ v ∷ vs | eq ↦ repeat r w (v ∷ vs) | gt ↦ v ∷ insert r order_words w vs ]) ≤ suc (length w) + numbers_in (v ∷ vs)
    go r lt h = omega arith
    go kept eq h = omega arith
    go lost eq h = omega arith
    go r gt h = omega arith

all_numbers : (r : Repeats) (vs ws : List Word) → numbers_in (insert_all r order_words vs ws) ≤ numbers_in vs + numbers_in ws
all_numbers r vs [] = omega arith
all_numbers r vs (w ∷ ws) = omega (arith, all_numbers r (insert r order_words w vs) ws, insert_numbers r w vs)

normal_numbers : (r : Repeats) (ws : List Word) → numbers_in (normal r ws) ≤ numbers_in ws
normal_numbers r ws = omega (arith, all_numbers r [] ws)

renamed_numbers : (f : ℕ → ℕ) (ws : List Word) → numbers_in (map (map f) ws) ≡ numbers_in ws
renamed_numbers f [] = refl
renamed_numbers f (w ∷ ws) = omega (arith, length-map w f, renamed_numbers f ws)

-- the words of a side, and renamed
pub spelled_bound : (r : Repeats) (t : Term) → size t ≤ 31 → length (spelled (words_with r t)) ≤ 2700
spelled_bound r t h =
    let few : atoms t ≤ 16 = omega (arith, size_atoms t) in
    omega (
      arith,
      spelled_numbers (words_with r t),
      ap numbers_in (words_expand r t),
      normal_numbers r (expand t),
      (expand_few t few).numbers,
      numbers_bound (atoms t) few,
    )

pub renamed_bound : (f : ℕ → ℕ) (ws : List Word) → length (spelled (rename_words f ws)) ≤ length (spelled ws)
unfolding rename_words
renamed_bound f ws =
    omega (arith, spelled_numbers (normal kept (map (map f) ws)), normal_numbers kept (map (map f) ws), renamed_numbers f ws, spelled_numbers ws)
