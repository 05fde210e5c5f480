-- How long texts are at most.
use Rattle.std.specs.Prelude.{ℕ, zero, suc, ◌+◌, ◌-◌, ◌*◌, ◌^◌, ◌/◌, ◌%◌, ◌≤◌, ◌<◌, ◌≡◌, refl, Bool, true, false, List, [], ◌∷◌, ◌++◌, length, ltb}
use Prim.Native.Char.{code}
use Rattle.std.proofs.Common.{arith, length-append}
use Rattle.terms.specs.Lists.{here, in_left, in_right}
use Rattle.terms.specs.Term as term
use Rattle.terms.specs.Term.{Term, letter, one, add, mul, size}
use Rattle.terms.specs.Letters.{letters, FIXED}
use Rattle.terms.specs.Theory.Reflects.{Reflects, leb_reflects}
use Rattle.text.specs.Bytes.{ascii, decimal, number, parted}
use Rattle.text.specs.TermText.{Readable, write_letter, items, write_term}
use Rattle.text.specs.Theory.TermText.{letter_cases}

-- a number below 10, 100, 1000 has at most 1, 2, 3 digits, and so on
decimal_length : (j k n : ℕ) → n < 10 ^ suc j → length (decimal k n) ≤ suc j
unfolding decimal
decimal_length j zero n h = omega arith
decimal_length zero (suc k) n h = go (ltb n 10) (leb_reflects (suc n) 10)
  where
    go : (b : Bool) → Reflects (n < 10) b → length {A = ℕ} (elim b [ true ↦ (48 + n) ∷ [] | false ↦ decimal k (n / 10) ++ ((48 + n % 10) ∷ []) ]) ≤ 1
    go true p = omega arith
    go false p = absurd (p (omega arith))
decimal_length (suc j) (suc k) n h = go (ltb n 10) (decimal_length j k (n / 10) (omega arith))
  where
    go : (b : Bool) → length (decimal k (n / 10)) ≤ suc j → length {A = ℕ} (elim b [ true ↦ (48 + n) ∷ [] | false ↦ decimal k (n / 10) ++ ((48 + n % 10) ∷ []) ]) ≤ suc (suc j)
    go true p = omega arith
    go false p = omega (arith, length-append (decimal k (n / 10)) ((48 + n % 10) ∷ []))

pub number_digits : (j n : ℕ) → n < 10 ^ suc j → length (number n) ≤ suc j
unfolding number
number_digits j n = decimal_length j n n

pub number_length : (n : ℕ) → n ≤ 999 → length (number n) ≤ 3
number_length n h = number_digits 2 n (omega arith)

letter_length : (n : ℕ) → n ≤ 1099 → length (write_letter n) ≤ 4
letter_length n h =
    letter_cases n (λ low e. rw e (omega (arith, number_length n (omega arith)))) (λ _ e. rw e (omega (arith, number_length (n - FIXED) (omega arith))))

-- the bytes of pieces, one more for each
abbrev weight : List (List ℕ) → ℕ
weight [] = 0
weight (p ∷ ps) = length p + 1 + weight ps

weight_append : (ps qs : List (List ℕ)) → weight (ps ++ qs) ≡ weight ps + weight qs
weight_append [] qs = omega arith
weight_append (p ∷ ps) qs = omega (arith, weight_append ps qs)

parted_length : (s : ℕ) (ps : List (List ℕ)) → length (parted s ps) ≤ weight ps
unfolding parted
parted_length s [] = omega arith
parted_length s (p ∷ []) = omega arith
parted_length s (p ∷ q ∷ qs) = omega (arith, length-append p (s ∷ parted s (q ∷ qs)), parted_length s (q ∷ qs))

items_weight : (t : Term) → Readable t → weight (items t) ≤ 5 * size t
unfolding items size letters ascii
items_weight (letter n) h = omega (arith, letter_length n (h n (here refl)))
items_weight term.zero h = omega arith
items_weight one h = omega arith
items_weight (add s t) h =
    omega (arith, weight_append (items s) (items t), items_weight s (λ n i. h n (in_left (letters t) i)), items_weight t (λ n i. h n (in_right (letters s) i)))
items_weight (mul s t) h =
    omega (arith, weight_append (items s) (items t), items_weight s (λ n i. h n (in_left (letters t) i)), items_weight t (λ n i. h n (in_right (letters s) i)))

-- a term is at most five bytes to a node
pub term_length : (t : Term) → Readable t → length (write_term t) ≤ 5 * size t
unfolding write_term
term_length t h = omega (arith, parted_length (code " ") (items t), items_weight t h)
