-- The canonical equation of two terms, as runs: the least over the renamings of their runs.
use Rattle.std.proofs.Common.{◌≡◌, ℕ, ◌-◌, ◌<◌, ◌≤◌, Bool, true, false, eqb, List, [], ◌∷◌, ◌++◌, length, take, drop, sym, refl, ap, ◌∙◌, ap₂, arith, take_at}
use mathlib.Core.List.{map-append}
use Rattle.terms.specs.Lists.{◌∈◌, here, there}
use Rattle.terms.specs.Compare.{order_numbers}
use Rattle.terms.specs.Equation.{orient}
use Rattle.terms.specs.Term.{Term, letter, zero, one, add, mul, size, order, subst}
use Rattle.terms.specs.Letters.{letters, rising, variables}
use Rattle.terms.specs.Run.{ZERO, ONE, ADD, MUL, run}
use Rattle.terms.specs.Held.{Fine, IsRun}
use Rattle.terms.specs.Promises.{ListsVariables}
use Rattle.terms.specs.Theory.Run.{run_order}
use Rattle.terms.specs.Theory.Held.{fine_letters, size_of}
use Rattle.std.specs.Prelude.{Option}
use Rattle.std.specs.Prelude.{Some, None}
use Rattle.words.specs.Rename.{renamed, least, rename_term, rename_words, canonical_terms}
use Rattle.words.specs.Words.{Word, order_lists}
use Rattle.words.specs.Spelled.{spelled}
use Rattle.words.specs.Theory.Spelled.{spelled_order}
use Rattle.words.specs.Decoded.{decoded, renaming, factorial, least_to, both}
use Rattle.words.specs.RenameRun.{rename_number, rename_run}
use Rattle.words.specs.Candidate.{Sides, Room, candidate, Finds, CanonicalTerms}
use Rattle.words.proofs.Decoded.{decoded_below}
use Rattle.words.proofs.Coded.{code_least}
use Rattle.words.proofs.Candidates.{least_candidate}
use Rattle.words.proofs.Renamed.{letter_renamed, other_stays}

-- a renamed term's run

renamed_node : (f : ℕ → ℕ) (x : ℕ) (us vs : List ℕ) {us' vs' : List ℕ} → ZERO ≤ x → us' ≡ rename_run f us → vs' ≡ rename_run f vs
    → x ∷ (us' ++ vs') ≡ rename_run f (x ∷ (us ++ vs))
renamed_node f x us vs h p q = ap₂ ◌∷◌ (other_stays f x h) (ap₂ ◌++◌ p q ∙ sym (map-append (rename_number f) us vs))

run_renamed : (f : ℕ → ℕ) (t : Term) → Fine t → run (rename_term f t) ≡ rename_run f (run t)
unfolding run rename_term subst Fine
run_renamed f (letter n) h = ap (λ m. m ∷ []) (letter_renamed f n h)
run_renamed f zero h = ap (λ m. m ∷ []) (other_stays f ZERO (omega arith))
run_renamed f one h = ap (λ m. m ∷ []) (other_stays f ONE (omega arith))
run_renamed f (add s t) h = renamed_node f ADD (run s) (run t) (omega arith) (run_renamed f s h.0) (run_renamed f t h.1)
run_renamed f (mul s t) h = renamed_node f MUL (run s) (run t) (omega arith) (run_renamed f s h.0) (run_renamed f t h.1)

-- renaming keeps letters small

renamed_below : (b n : ℕ) (names ps : List ℕ) → n < b → ((p : ℕ) → p ∈ ps → p < b) → renamed names ps n < b
unfolding renamed
renamed_below b n [] ps h k = h
renamed_below b n (m ∷ ms) [] h k = h
renamed_below b n (m ∷ ms) (p ∷ ps) h k = go (eqb n m) (renamed_below b n ms ps h (λ q i. k q (there i)))
  where
    go : (c : Bool) → renamed ms ps n < b → elim c [ true ↦ p | false ↦ renamed ms ps n ] < b
    go true rest = k p (here refl)
    go false rest = rest

renamed_fine : (f : ℕ → ℕ) → ((n : ℕ) → n < ZERO → f n < ZERO) → (t : Term) → Fine t → Fine (rename_term f t)
unfolding rename_term subst Fine
renamed_fine f k (letter n) h = k n h
renamed_fine f k zero h = h
renamed_fine f k one h = h
renamed_fine f k (add s t) h = (renamed_fine f k s h.0, renamed_fine f k t h.1)
renamed_fine f k (mul s t) h = (renamed_fine f k s h.0, renamed_fine f k t h.1)

pub renaming_below : (names : List ℕ) → length names ≤ 6 → (c n : ℕ) → n < ZERO → renaming names c n < ZERO
renaming_below names l c n h =
    renamed_below ZERO n names (decoded (length names) 0 c) h (λ p m. omega (arith, decoded_below (length names) 0 c m))

-- the least over all renamings

pub run_carries : (s t : Term) → Fine s → Fine t → order_numbers (run s) (run t) ≡ order s t
run_carries s t f g = run_order s t (fine_letters s f) (fine_letters t g)

module _ (names : List ℕ) (few : length names ≤ 6) (s t : Term) (f : Fine s) (g : Fine t) where
  run_candidate : (c : ℕ)
      → orient order_numbers (run (rename_term (renaming names c) s)) (run (rename_term (renaming names c) t)) ≡ candidate names (run s) (run t) c
  run_candidate c = rw (run_renamed (renaming names c) s f, run_renamed (renaming names c) t g)

  run_least : both run (least order rename_term names s t) ≡ least order_numbers rename_run names (run s) (run t)
  run_least =
      code_least run Fine run_carries rename_term names s t
      (λ c. renamed_fine (renaming names c) (renaming_below names few c) s f) (λ c. renamed_fine (renaming names c) (renaming_below names few c) t g)
      ∙ (λ i. least_to order_numbers (λ c. run_candidate c i) (factorial (length names) - 1))
      ∙ least_candidate names (run s) (run t)

-- the promise, by what became of the v letters

module _ (xs ys : List ℕ) {room : ℕ} {names names' : List ℕ} {l : Option ℕ} (listed : ListsVariables xs ys names l names') where
  pub too_many : {e : Sides} → length names ≡ 6 → l ≡ None → CanonicalTerms xs ys room e
  too_many n p = record { exact = λ s t u v a b few c. absurd (omega (arith, (rw p at (listed.terms s t u v)).0)) }

  pub all_listed : {k : ℕ} {e : Sides} → l ≡ Some k
      → Finds (Room 31 xs ys room) (least_to order_numbers (candidate (take k names') xs ys) (factorial (length (take k names')) - 1)) e
      → CanonicalTerms xs ys room e
  unfolding canonical_terms
  all_listed {k} {e} p found = record { exact = exact }
    where
      exact : (s t : Term) → IsRun xs s → IsRun ys t → size s ≤ 31 → size t ≤ 31
          → length (rising (variables (letters s ++ letters t))) ≤ 6 → 31 ≤ room
          → (e.left ≡ run (canonical_terms s t).left) × (e.right ≡ run (canonical_terms s t).right)
      exact s t u v a b few c =
          let rs = rising (variables (letters s ++ letters t)) in
          let fills = rw p at (listed.terms s t u v) in
          let letters_used : take k names' ≡ rs = ap (take k) fills.2 ∙ take_at rs (drop k names) k (sym fills.0) in
          let roomy : Room 31 xs ys room = record { first = omega (arith, size_of u); second = omega (arith, size_of v); sides = c } in
          let d : e ≡ both run (canonical_terms s t) =
          found.exact roomy ∙ least_candidate (take k names') xs ys ∙ rw (letters_used, u.whole, v.whole) (sym (run_least rs few s t u.fine v.fine)) in
          (ap (λ (z : Sides). z.left) d, ap (λ (z : Sides). z.right) d)

-- the least over all renamings of two lists of words, by their runs
pub spelled_least : (names : List ℕ) (u v : List Word) → both spelled (least order_lists rename_words names u v)
    ≡ least_to order_numbers (λ c. orient order_numbers (spelled (rename_words (renaming names c) u)) (spelled (rename_words (renaming names c) v)))
    (factorial (length names) - 1)
spelled_least names u v = code_least spelled (λ w. Unit {0}) (λ x y p q. spelled_order x y) rename_words names u v (λ c. tt) (λ c. tt)
