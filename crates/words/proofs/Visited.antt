-- Candidates tried one after another: the least of those so far.
use Rattle.std.proofs.Common.{◌≡◌, ℕ, zero, suc, ◌+◌, ◌-◌, ◌<◌, List, sym, refl, ap, ◌∙◌, arith}
use Rattle.terms.specs.Compare.{Ordering, order_numbers}
use Rattle.terms.specs.Equation.{Equation, orient}
use Rattle.terms.specs.Run.{ZERO}
use Rattle.words.specs.Rename.{lesser}
use Rattle.words.specs.Decoded.{factorial, least_to}
use Rattle.words.specs.Candidate.{Sides, Room, Tries, Visits, Offers, Finds}
use Rattle.words.proofs.Decoded.{factorial_positive}

least_next : {A : Type 0} (o : A → A → Ordering) (g : ℕ → Equation A) (c : ℕ) → (c ≡ 0 → ⊥)
    → lesser o (least_to o g (c - 1)) (g c) ≡ least_to o g c
unfolding least_to
least_next o g zero h = absurd (h refl)
least_next o g (suc c) h = let e : suc c - 1 ≡ c = omega arith in rw e

-- the runs u and v make the equation, and there is room for them
pub record Made (n : ℕ) (e : Sides) (u v : List ℕ) (most : ℕ) : Type 0 where
  pub room : Room n u v most
  pub equation : orient order_numbers u v ≡ e

visited : {IsRoom : Type 0} {n c most : ℕ} {g : ℕ → Sides} {u v : List ℕ} {e e' : Sides} → (IsRoom → Made n (g c) u v most) → Tries u v c most e e'
    → Visits IsRoom g c e e'
unfolding least_to
visited {n = n} {c = zero} made t = record { exact = λ h p. (t.first refl).exact n (made h).room ∙ (made h).equation }
visited {n = n} {c = suc c} {g = g} made t =
    record {
      exact = λ h p.
          (t.later (λ e. omega arith)).exact n (made h).room
          ∙ rw ((made h).equation, p (omega arith)) (least_next order_numbers g (suc c) (λ e. omega arith));
    }

module _ {IsRoom : Type 0} {equation : (ℕ → ℕ) → Sides} {new : ℕ → ℕ} {c : ℕ} {e : Sides} where
  pub offered : {n most : ℕ} {u v : List ℕ} {e' : Sides} → (((m : ℕ) → m < ZERO → new m < ZERO) → IsRoom → Made n (equation new) u v most)
      → Tries u v c most e e' → Offers IsRoom equation new c e e'
  offered made t =
      record { exact = λ g p small. visited (λ h. record { room = (made small h).room; equation = (made small h).equation ∙ sym p }) t }

  -- an equation that is surely no lesser one is not made
  pub passed_over : 0 < c → (IsRoom → lesser order_numbers e (equation new) ≡ e) → Offers IsRoom equation new c e e
  passed_over z k =
      record {
        exact = λ g p small. record {
          exact = λ h q.
              sym (k h) ∙ ap (lesser order_numbers e) (sym p) ∙ ap (λ d. lesser order_numbers d (g c)) (q z)
              ∙ least_next order_numbers g c (λ d. omega arith);
        };
      }

-- all of them, in a loop

-- those with numbers below c are tried
pub record Visited (IsRoom : Type 0) (g : ℕ → Sides) (e : Sides) (c : ℕ) : Type 0 where
  pub exact : IsRoom → 0 < c → e ≡ least_to order_numbers g (c - 1)

module _ {IsRoom : Type 0} {g : ℕ → Sides} where
  pub none_visited : {e : Sides} → Visited IsRoom g e 0
  none_visited = record { exact = λ h z. absurd (omega arith) }

  module _ {e : Sides} {c : ℕ} (v : Visited IsRoom g e c) where
    pub one_more_visited : {IsRoom' : Type 0} {e' : Sides} → (IsRoom → IsRoom') → Visits IsRoom' g c e e' → Visited IsRoom g e' (c + 1)
    one_more_visited still k = record { exact = λ h z. let d : c + 1 - 1 ≡ c = omega arith in rw d (k.exact (still h) (v.exact h)) }

    pub all_visited : (k : ℕ) → c ≡ factorial k → Finds IsRoom (least_to order_numbers g (factorial k - 1)) e
    all_visited k p = record { exact = λ h. v.exact h (omega (arith, factorial_positive k)) ∙ rw p }

-- one more is tried; what is renamed may change otherwise on the way
pub one_more_offered : {IsRoom IsRoom' : Type 0} {equation equation' : (ℕ → ℕ) → Sides} (renamings : ℕ → ℕ → ℕ) {new : ℕ → ℕ} {e e' : Sides} {c : ℕ}
    → Visited IsRoom (λ i. equation (renamings i)) e c → (IsRoom → IsRoom') → equation' ≡ equation → new ≡ renamings c
    → ((n : ℕ) → n < ZERO → renamings c n < ZERO) → Offers IsRoom' equation' new c e e' → Visited IsRoom (λ i. equation (renamings i)) e' (c + 1)
one_more_offered {equation = equation} {equation'} renamings {c = c} v still same is small k =
    one_more_visited v still
    (k.exact (λ i. equation (renamings i)) (ap (λ f. f (renamings c)) (sym same) ∙ ap equation' (sym is)) (λ n h. rw is (small n h)))
