-- Two lists of words part at the word at which their runs do.
use Prim.Native.Nat.compare
use Prim.Native.Nat.{ℕ, suc, compare}
use Rattle.std.specs.Prelude.{◌≡◌, List, [], ◌∷◌, ◌++◌, take, cond, nat_eq}
use Rattle.std.proofs.Common.{arith, refl, ◌∙◌, ap}
use Rattle.std.proofs.lemmas.List.Sums.{sum_by-cons}
use Rattle.terms.specs.Compare.{Ordering, lt, eq, gt, then, lexicographic}
use Rattle.terms.specs.Differ.{differ_at}
use Rattle.terms.specs.Theory.Differ.{counted}
use Rattle.words.specs.Words.{Word, order_words}
use Rattle.words.specs.Spelled.{spelled_word, spelled, ends}

-- a 0 ends a word, and no other number does

ends_here : (xs : List ℕ) → ends (0 ∷ xs) ≡ suc (ends xs)
ends_here xs = omega (arith, sum_by-cons (λ y. cond (nat_eq y 0) 1 0) 0 xs)

ends_later : (n : ℕ) (xs : List ℕ) → ends (suc n ∷ xs) ≡ ends xs
ends_later n xs = sum_by-cons (λ y. cond (nat_eq y 0) 1 0) (suc n) xs ∙ rw (compare.suc-zero n) (omega arith)

-- how many words end before two runs part
abbrev ends_alike : List ℕ → List ℕ → ℕ
ends_alike xs ys = ends (take (differ_at compare xs ys) xs)

word_ends : (u v : Word) (xs ys : List ℕ) → ends_alike (spelled_word u ++ xs) (spelled_word v ++ ys) ≡ counted (order_words u v) (ends_alike xs ys)
unfolding lexicographic then differ_at
word_ends [] [] xs ys = ends_here (take (differ_at compare xs ys) xs)
word_ends [] (n ∷ v) xs ys = rw (differ_at, compare.zero-suc n)
word_ends (m ∷ u) [] xs ys = rw (differ_at, compare.suc-zero m)
word_ends (m ∷ u) (n ∷ v) xs ys = rw (differ_at, compare.suc-suc m n) (go (compare m n) (word_ends u v xs ys))
  where
    a : List ℕ
    a = spelled_word u ++ xs

    b : List ℕ
    b = spelled_word v ++ ys

    go : (c : Ordering) → ends_alike a b ≡ counted (order_words u v) (ends_alike xs ys)
        → ends (take (counted c (differ_at compare a b)) (suc m ∷ a)) ≡ counted (then c (order_words u v)) (ends_alike xs ys)
    go lt e = refl
    go eq e = ends_later m (take (differ_at compare a b) a) ∙ e
    go gt e = refl

-- the words that end before the runs part tell the place where the lists do
pub spelled_place : (us vs : List Word) → ends (take (differ_at compare (spelled us) (spelled vs)) (spelled us)) ≡ differ_at order_words us vs
unfolding spelled differ_at
spelled_place [] vs = refl
spelled_place ([] ∷ us) [] = refl
spelled_place ((m ∷ u) ∷ us) [] = refl
spelled_place (u ∷ us) (v ∷ vs) = word_ends u v (spelled us) (spelled vs) ∙ ap (counted (order_words u v)) (spelled_place us vs)
