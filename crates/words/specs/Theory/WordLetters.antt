-- Words before they are sorted: their letters are the term's, and they are renamed as the sorted ones are.
use Rattle.std.specs.Prelude.{◌≡◌, ℕ, ◌≤◌, ◌↔◌, List, [], ◌∷◌, ◌++◌, map, length, refl}
use Rattle.std.proofs.Math.Logic.{⊎_elim}
use mathlib.Core.List.Permᴰ
use mathlib.Core.List.{flatten}
use Rattle.terms.specs.Lists.{◌∈◌, here, there, not-in-nil, append_cases, only_one, in_left, in_right, of_map}
use Rattle.terms.specs.Sort.{kept}
use Rattle.terms.specs.Term.{Term, letter, zero, one, add, mul}
use Rattle.terms.specs.Letters.{letters, EachLetter, rising, FIXED, variables}
use Rattle.terms.specs.Theory.Sorting.{sort_permutation, sort_of_permutation}
use Rattle.terms.specs.Theory.SortMembers.{sort_members}
use Rattle.terms.specs.Theory.Letters.{below_same, below_fewer}
use Rattle.words.specs.Words.{Word, products, normal, expand}
use Rattle.words.specs.Rename.{rename_words}
use Rattle.words.specs.Theory.Order.{word_order}

-- what holds of each letter of a term holds of each letter of its words

module _ (P : ℕ → Type 0) where
  abbrev pub EachIn : List Word → Type 0
  EachIn ws = (w : Word) → w ∈ ws → (n : ℕ) → n ∈ w → P n

  each_products : (us vs : List Word) → EachIn us → EachIn vs → EachIn (products us vs)
  unfolding products
  each_products [] vs p q w m n k = absurd (not-in-nil m)
  each_products (u ∷ us) vs p q w m n k =
      ⊎_elim
      (λ j. let (v, i, e) = of_map (u ++◌) vs j in ⊎_elim (p u (here refl) n) (q v i n) (append_cases u (rw (← e) at k)))
      (λ j. each_products us vs (λ x i. p x (there i)) q w j n k)
      (append_cases (map (u ++◌) vs) m)

  pub each_expanded : (t : Term) → EachLetter P t → EachIn (expand t)
  unfolding expand letters
  each_expanded (letter m) h = λ w i n j. h n (rw (only_one i) at j)
  each_expanded zero h = λ w i. absurd (not-in-nil i)
  each_expanded one h = λ w i n j. absurd (not-in-nil (rw (only_one i) at j))
  each_expanded (add s t) h =
      λ w i.
      ⊎_elim
      (each_expanded s (λ n m. h n (in_left (letters t) m)) w)
      (each_expanded t (λ n m. h n (in_right (letters s) m)) w)
      (append_cases (expand s) i)
  each_expanded (mul s t) h =
      each_products (expand s) (expand t)
      (each_expanded s (λ n m. h n (in_left (letters t) m)))
      (each_expanded t (λ n m. h n (in_right (letters s) m)))

  pub each_flat : (ws : List Word) → EachIn ws → (n : ℕ) → n ∈ flatten ws → P n
  unfolding flatten
  each_flat [] h n m = absurd (not-in-nil m)
  each_flat (w ∷ ws) h n m = ⊎_elim (h w (here refl) n) (each_flat ws (λ v i. h v (there i)) n) (append_cases w m)

-- so the words have no more v letters than the terms

letters_in : (s t : Term) (n : ℕ) → n ∈ flatten (expand s) ++ flatten (expand t) → n ∈ letters s ++ letters t
letters_in s t n i =
    ⊎_elim
    (λ k. in_left (letters t) (each_flat (λ n. n ∈ letters s) (expand s) (each_expanded (λ n. n ∈ letters s) s (λ n j. j)) n k))
    (λ k. in_right (letters s) (each_flat (λ n. n ∈ letters t) (expand t) (each_expanded (λ n. n ∈ letters t) t (λ n j. j)) n k))
    (append_cases (flatten (expand s)) i)

pub fewer_variables : (s t : Term)
    → length (rising (variables (flatten (expand s) ++ flatten (expand t)))) ≤ length (rising (variables (letters s ++ letters t)))
fewer_variables s t = below_fewer FIXED (flatten (expand s) ++ flatten (expand t)) (letters s ++ letters t) (letters_in s t)

-- v letters are listed alike before and after the words are sorted

in_flat : {w : Word} {ws : List Word} {n : ℕ} → w ∈ ws → n ∈ w → n ∈ flatten ws
unfolding flatten
in_flat (here {xs = ws} e) i = in_left (flatten ws) (rw e at i)
in_flat (there {x = v} k) i = in_right v (in_flat k i)

of_flat : (ws : List Word) {n : ℕ} → n ∈ flatten ws → (w : Word) × w ∈ ws × n ∈ w
unfolding flatten
of_flat [] i = absurd (not-in-nil i)
of_flat (w ∷ ws) i = ⊎_elim (λ j. (w, here refl, j)) (λ j. let (v, k, l) = of_flat ws j in (v, there k, l)) (append_cases w i)

-- the letters of a sorted list are those of the list
pub sorted_letters : (ws : List Word) (n : ℕ) → n ∈ flatten (normal kept ws) ↔ n ∈ flatten ws
sorted_letters ws n = (
  λ i. let (w, k, j) = of_flat (normal kept ws) i in in_flat ((sort_members kept word_order ws w).0 k) j,
  λ i. let (w, k, j) = of_flat ws i in in_flat ((sort_members kept word_order ws w).1 k) j,
)

pub rising_sorted_words : (us vs : List Word)
    → rising (variables (flatten (normal kept us) ++ flatten (normal kept vs))) ≡ rising (variables (flatten us ++ flatten vs))
rising_sorted_words us vs =
    below_same FIXED (flatten (normal kept us) ++ flatten (normal kept vs)) (flatten us ++ flatten vs) (λ n. (only n, all n))
  where
    only : (n : ℕ) → n ∈ flatten (normal kept us) ++ flatten (normal kept vs) → n ∈ flatten us ++ flatten vs
    only n i =
        ⊎_elim (λ j. in_left (flatten vs) ((sorted_letters us n).0 j)) (λ j. in_right (flatten us) ((sorted_letters vs n).0 j))
        (append_cases (flatten (normal kept us)) i)

    all : (n : ℕ) → n ∈ flatten us ++ flatten vs → n ∈ flatten (normal kept us) ++ flatten (normal kept vs)
    all n i =
        ⊎_elim (λ j. in_left (flatten (normal kept vs)) ((sorted_letters us n).1 j)) (λ j. in_right (flatten (normal kept us)) ((sorted_letters vs n).1 j))
        (append_cases (flatten us) i)

-- and renaming sorts anyway
pub rename_sorted_words : (f : ℕ → ℕ) (ws : List Word) → rename_words f (normal kept ws) ≡ rename_words f ws
unfolding rename_words
rename_sorted_words f ws = sort_of_permutation kept word_order (Permᴰ.map (map f) (sort_permutation word_order ws))
