-- Equations coded by runs of numbers that are ordered as the sides are: the code of the least is the least of the codes.
use Rattle.std.proofs.Common.{◌≡◌, ℕ, zero, suc, ◌-◌, List, length, refl, ap, ◌∙◌}
use Rattle.terms.specs.Compare.{Ordering, lt, eq, gt, order_numbers}
use Rattle.terms.specs.Equation.{Equation, orient}
use Rattle.terms.specs.Theory.Equation.{orient_either}
use Rattle.words.specs.Rename.{order_equations, lesser, by_renaming, least}
use Rattle.words.specs.Decoded.{both, renaming, factorial, least_to}
use Rattle.words.proofs.Decoded.{numbered, least_numbered}

module _ {A : Type 0} {o : A → A → Ordering} (code : A → List ℕ) (Ok : A → Type 0)
    (carries : (x y : A) → Ok x → Ok y → order_numbers (code x) (code y) ≡ o x y) where
  abbrev BothOk : Equation A → Type 0
  BothOk e = Ok e.left × Ok e.right

  pub code_orient : {s t : A} → Ok s → Ok t → both code (orient o s t) ≡ orient order_numbers (code s) (code t)
  unfolding orient
  code_orient {s} {t} p q = rw (carries s t p q, orient) (go (o s t))
    where
      go : (c : Ordering)
          → both code (elim c [ lt ↦ record { left = s; right = t } | eq ↦ record { left = s; right = t } | gt ↦ record { left = t; right = s } ])
          ≡ elim c [ lt ↦ record { left = code s; right = code t } | eq ↦ record { left = code s; right = code t } | gt ↦ record { left = code t; right = code s } ]
      go lt = refl
      go eq = refl
      go gt = refl

  order_coded : {e f : Equation A} → BothOk e → BothOk f → order_equations order_numbers (both code e) (both code f) ≡ order_equations o e f
  unfolding order_equations
  order_coded {e} {f} p q = rw (carries e.left f.left p.0 q.0, carries e.right f.right p.1 q.1)

  pub code_lesser : {e f : Equation A} → BothOk e → BothOk f → both code (lesser o e f) ≡ lesser order_numbers (both code e) (both code f)
  unfolding lesser
  code_lesser {e} {f} p q = rw (order_coded p q, lesser) (go (order_equations o e f))
    where
      go : (c : Ordering) → both code (elim c [ lt ↦ e | eq ↦ e | gt ↦ f ]) ≡ elim c [ lt ↦ both code e | eq ↦ both code e | gt ↦ both code f ]
      go lt = refl
      go eq = refl
      go gt = refl

  lesser_ok : {e f : Equation A} → BothOk e → BothOk f → BothOk (lesser o e f)
  unfolding lesser
  lesser_ok {e} {f} p q = go (order_equations o e f)
    where
      go : (c : Ordering) → BothOk (elim c [ lt ↦ e | eq ↦ e | gt ↦ f ])
      go lt = p
      go eq = p
      go gt = q

  module _ (candidate : ℕ → Equation A) (ok : (c : ℕ) → BothOk (candidate c)) where
    least_ok : (c : ℕ) → BothOk (least_to o candidate c)
    unfolding least_to
    least_ok zero = ok zero
    least_ok (suc c) = lesser_ok (least_ok c) (ok (suc c))

    code_least_to : (c : ℕ) → both code (least_to o candidate c) ≡ least_to order_numbers (λ c. both code (candidate c)) c
    unfolding least_to
    code_least_to zero = refl
    code_least_to (suc c) = code_lesser (least_ok c) (ok (suc c)) ∙ rw (code_least_to c)

  -- over all renamings
  module _ (rename : (ℕ → ℕ) → A → A) (names : List ℕ) (s t : A)
      (left-ok : (c : ℕ) → Ok (rename (renaming names c) s)) (right-ok : (c : ℕ) → Ok (rename (renaming names c) t)) where
    pub code_least : both code (least o rename names s t)
        ≡ least_to order_numbers (λ c. orient order_numbers (code (rename (renaming names c) s)) (code (rename (renaming names c) t)))
        (factorial (length names) - 1)
    unfolding by_renaming
    code_least =
        ap (both code) (least_numbered o rename names s t)
        ∙ code_least_to (numbered o rename names s t)
        (λ c. orient_either (λ x y. Ok x × Ok y) o (rename (renaming names c) s) (rename (renaming names c) t) (left-ok c, right-ok c) (right-ok c, left-ok c))
        (factorial (length names) - 1)
        ∙ (λ i. least_to order_numbers (λ c. code_orient (left-ok c) (right-ok c) i) (factorial (length names) - 1))
