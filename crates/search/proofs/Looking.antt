-- Looking for a term in the slots, from the head of its bucket on.
use Prim.Native.Nat.{ℕ, suc, ◌≤◌, ◌<◌}
use native.Mathlib.Omega.{arith}
use mathlib.Core.Path.{◌≡◌, refl, sym, ap, ◌∙◌}
use mathlib.Core.Logic.{⊎_elim}
use mathlib.Core.Bool.{Bool, true, false}
use Rattle.std.specs.Prelude.{Option, Some, None, is_some}
use mathlib.Core.List.{List, [], ◌∷◌}
use lib.ListN.{length}
use Rattle.terms.specs.Lists.{◌∈◌, not-in-nil, cons-cases}
use Rattle.terms.specs.Term.{Term, zero}
use Rattle.terms.specs.Held.{IsRun}
use Rattle.terms.specs.Theory.Order.{below?}
use Rattle.terms.specs.Theory.Members.{getD_in}
use Rattle.terms.specs.Theory.Reflects.{Reflects}
use Rattle.terms.specs.Theory.TermOrder.{same_reflects}
use Rattle.search.specs.Index.{slots_of, hash, bucket, next_of, Newest}
use Rattle.search.specs.Runs.{term_at, home, Runs, Compares, Seeks, Finds}
use Rattle.search.proofs.Holding.{runs_held}

-- a member of a list stands at a place
place_in : (ts : List Term) {t : Term} → t ∈ ts → (k : ℕ) × (k < length ts) × (t ≡ term_at ts k)
place_in [] m = absurd (not-in-nil m)
place_in (x ∷ ts) {t} m = ⊎_elim (λ (e : t ≡ x). (0, omega arith, e)) (λ n. let (k, h, e) = place_in ts n in (suc k, omega arith, e)) (cons-cases m)

-- no slot from `end` on has the term
abbrev pub Passed : List ℕ → ℕ → List ℕ → ℕ → Type 0
Passed ws count xs end =
    (ts : List Term) (t : Term) → Runs ws ts → length ts ≡ count → IsRun xs t → (j : ℕ) → end ≤ j → j < count → t ≡ term_at ts j → ⊥

-- of the first `end` slots, slot k is the newest in the bucket of the run
abbrev pub Leading : List ℕ → ℕ → List ℕ → ℕ → ℕ → Type 0
Leading ws count xs end k = (ts : List Term) → Runs ws ts → length ts ≡ count → Newest (home ws ts) (bucket (slots_of (length ws)) xs) end k

-- what a comparison with slot k says
abbrev pub Tells : List ℕ → ℕ → List ℕ → ℕ → Bool → Type 0
Tells ws count xs k true = Seeks ws count xs (Some k)
Tells ws count xs k false = Passed ws count xs k

-- all slots are passed over
nowhere : {ws : List ℕ} {count : ℕ} {xs : List ℕ} → Passed ws count xs 0 → Seeks ws count xs None
nowhere P =
    record {
      within = tt;
      exact = λ ts t R c r m. let (j, h, e) = place_in ts m in P ts t R c r j (omega arith) (omega (arith, h)) e;
    }

module _ {ws : List ℕ} {count : ℕ} {xs : List ℕ} {end k : ℕ} (P : Passed ws count xs end) (L : Leading ws count xs end k) (g : end ≤ count) where
  -- the slots of other buckets have other terms
  other : (ts : List Term) (t : Term) → Runs ws ts → length ts ≡ count → IsRun xs t → (j : ℕ) → (j ≤ k → k < end → ⊥) → j < count → t ≡ term_at ts j → ⊥
  other ts t R c h j q p e =
      ⊎_elim
      (λ l. let (u, v) = (L ts R c).last j l (rw (← e, ← h.whole)) in q u v)
      (λ l. P ts t R c h j l p e)
      (below? j end)

  pub found_nowhere : end ≤ k → Seeks ws count xs None
  found_nowhere h = nowhere (λ ts t R c r j p q e. other ts t R c r j (λ u v. omega arith) q e)

  module _ (h : k < end) where
    module _ {x : ℕ} (e : x ≡ hash xs 0) where
      same_is : {b : Bool} → Compares ws k xs x b → (ts : List Term) (t : Term) → Runs ws ts → length ts ≡ count → IsRun xs t → Reflects (t ≡ term_at ts k) b
      same_is C ts t R c r = rw (C.exact ts t (runs_held R) (omega arith) r e) (same_reflects t (term_at ts k))

      pub tells : (b : Bool) → Compares ws k xs x b → Tells ws count xs k b
      tells true C = record { within = omega arith; exact = λ ts t R c r. sym (same_is C ts t R c r) }
      tells false C =
          λ ts t R c r j p q f.
          ⊎_elim
          (λ l. other ts t R c r j (λ u v. omega arith) q f)
          (λ l. let i : j ≡ k = omega arith in same_is C ts t R c r (f ∙ ap (term_at ts) i))
          (below? k j)

    pub leading_next : Leading ws count xs k (next_of ws k)
    leading_next ts R c = rw ((L ts R c).own h) at (R.index.next k (omega arith))

-- the slot or none, as a test
pub found : {ws : List ℕ} {count : ℕ} {xs : List ℕ} (r : Option ℕ) → Seeks ws count xs r → Finds ws count xs (is_some r)
found (Some k) F =
    record { exact = λ ts t R c h. (λ e. rw (← (F.exact ts t R c h)) (getD_in zero ts k (omega (arith, F.within))), λ m. refl) }
found None F =
    record { exact = λ ts t R c h. (λ f. absurd (let z : ◌≡◌ {A = ℕ} 0 1 = cc in omega arith), λ m. absurd (F.exact ts t R c h m)) }
