-- Runs as they stand in lists: `Fine` speaks of each letter, runs are as long and ordered as their terms, and none is a beginning of another.
use Rattle.std.specs.Prelude.{ℕ, ◌<◌, ◌≤◌, ◌≡◌, refl, List, [], ◌∷◌, ◌++◌, length, take, drop}
use Rattle.std.proofs.Common.{arith, sym, ◌∙◌, ap, ⊎_elim, append-nil, length-append, take-append-drop, drop_of_length-le, take_all}
use Rattle.terms.specs.Lists.{here, not-in-nil, only_one, append_cases, in_left, in_right}
use Rattle.terms.specs.Compare.{gt, lexicographic, order_numbers}
use Rattle.terms.specs.Differ.{DifferAt}
use Rattle.terms.specs.Term.{Term, letter, zero, one, add, mul, size, order}
use Rattle.terms.specs.Letters.{letters, EachLetter}
use Rattle.terms.specs.Run.{ZERO, run}
use Rattle.terms.specs.Held.{Fine, IsRun}
use Rattle.terms.specs.Theory.Order.{gt≢eq, below?}
use Rattle.terms.specs.Theory.Lexicographic.{then_eq}
use Rattle.terms.specs.Theory.Differ.{differ_swap}
use Rattle.terms.specs.Theory.Coding.{numbers_order}
use Rattle.terms.specs.Theory.Run.{run_then, run_order}

-- what `run_order` asks of a term
pub fine_letters : (t : Term) → Fine t → EachLetter (λ n. n < ZERO) t
unfolding Fine letters
fine_letters (letter m) f n i = rw (only_one i) f
fine_letters zero f n i = absurd (not-in-nil i)
fine_letters one f n i = absurd (not-in-nil i)
fine_letters (add s t) f n i = ⊎_elim (fine_letters s f.0 n) (fine_letters t f.1 n) (append_cases (letters s) i)
fine_letters (mul s t) f n i = ⊎_elim (fine_letters s f.0 n) (fine_letters t f.1 n) (append_cases (letters s) i)

-- and what tells that it is fine
pub letters_fine : (t : Term) → EachLetter (λ n. n < ZERO) t → Fine t
unfolding Fine letters
letters_fine (letter n) h = h n (here refl)
letters_fine zero h = tt
letters_fine one h = tt
letters_fine (add s t) h = (letters_fine s (λ n i. h n (in_left (letters t) i)), letters_fine t (λ n i. h n (in_right (letters s) i)))
letters_fine (mul s t) h = (letters_fine s (λ n i. h n (in_left (letters t) i)), letters_fine t (λ n i. h n (in_right (letters s) i)))

pub length_run : (t : Term) → length (run t) ≡ size t
unfolding run size
length_run (letter n) = refl
length_run zero = refl
length_run one = refl
length_run (add s t) = simp (length-append, length_run s, length_run t) (omega arith)
length_run (mul s t) = simp (length-append, length_run s, length_run t) (omega arith)

pub size_of : {xs : List ℕ} {t : Term} → IsRun xs t → length xs ≡ size t
size_of {t = t} h = ap length h.whole ∙ length_run t

pub order_of : {xs ys : List ℕ} {s t : Term} → IsRun xs s → IsRun ys t → order_numbers xs ys ≡ order s t
order_of {s = s} {t = t} p q = rw (p.whole, q.whole) (run_order s t (fine_letters s p.fine) (fine_letters t q.fine))

-- a run is no beginning of another
run_ends : {xs ys : List ℕ} {s t : Term} → IsRun xs s → IsRun ys t → (rest : List ℕ) → xs ++ rest ≡ ys → rest ≡ []
unfolding lexicographic
run_ends p q [] e = refl
run_ends {s = s} {t = t} p q (x ∷ rest) e =
    let longer : run s ++ (x ∷ rest) ≡ run t ++ [] = rw (← p.whole, ← q.whole, append-nil) e in
    let h = run_then s t (fine_letters s p.fine) (fine_letters t q.fine) (x ∷ rest) [] in
    absurd (gt≢eq (then_eq (order s t) gt (sym (rw (longer, numbers_order.reflexive) at h))).1)

place_in : {xs ys : List ℕ} {s t : Term} (k : ℕ) → IsRun xs s → IsRun ys t → DifferAt xs ys k → k < length xs
place_in {xs} {ys} k p q d = ⊎_elim (λ h. h) (λ h. absurd (ends h)) (below? k (length xs))
  where
    ends : length xs ≤ k → ⊥
    ends h =
        let front : xs ≡ take k ys = sym (take_all k xs h) ∙ d.agree.front in
        let none : drop k ys ≡ [] = run_ends p q (drop k ys) (rw front (take-append-drop k ys)) in
        rw (drop_of_length-le xs h, none) at d.here

-- so the first place where the runs of two terms differ is a place of both
pub place_of : {xs ys : List ℕ} {s t : Term} (k : ℕ) → IsRun xs s → IsRun ys t → DifferAt xs ys k → (k < size s) × (k < size t)
place_of k p q d = (rw (← size_of p) (place_in k p q d), rw (← size_of q) (place_in k q p (differ_swap d)))
