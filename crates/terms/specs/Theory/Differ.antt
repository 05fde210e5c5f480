-- `differ_at` names the first place where two lists differ, and their order is decided there.
use Prim.Native.Nat.{ℕ, zero, suc}
use Rattle.std.proofs.Common.{arith, sym, ◌∙◌, ap, ap₂}
use Rattle.std.specs.Prelude.{◌≡◌, length, drop}
use Rattle.std.proofs.Math.Path.{refl}
use mathlib.Core.List.{List, [], ◌∷◌, ◌++◌}
use Rattle.terms.specs.Compare.{Ordering, lt, eq, gt, then, lexicographic}
use Rattle.terms.specs.Differ.{differ_at, Agree, Unlike, DifferAt}
use Rattle.terms.specs.Theory.Order.{IsOrder, cases, lt≢eq, gt≢eq}

module _ {A : Type 0} where
  pub agree_none : (xs ys : List A) → Agree xs ys 0
  agree_none xs ys = record { within = (omega arith, omega arith); front = refl }

  differ_later : {x y : A} {xs ys : List A} {k : ℕ} → x ≡ y → DifferAt xs ys k → DifferAt (x ∷ xs) (y ∷ ys) (suc k)
  differ_later e p =
      let (a, b) = p.agree.within in
      record { agree = record { within = (omega arith, omega arith); front = ap₂ ◌∷◌ e p.agree.front }; here = p.here }

  differ_earlier : {x y : A} {xs ys : List A} {k : ℕ} → DifferAt (x ∷ xs) (y ∷ ys) (suc k) → (x ≡ y) × DifferAt xs ys k
  differ_earlier p =
      let e = p.agree.front in
      let (a, b) = p.agree.within in
      (cc, record { agree = record { within = (omega arith, omega arith); front = cc }; here = p.here })

  -- there is one such place at most
  pub differ_once : (xs ys : List A) {j k : ℕ} → DifferAt xs ys j → DifferAt xs ys k → j ≡ k
  differ_once xs ys {j = zero} {k = zero} p q = refl
  differ_once [] ys {j = zero} {k = suc k} p q = absurd (omega (arith, q.agree.within.0))
  differ_once (x ∷ xs) [] {j = zero} {k = suc k} p q = absurd (omega (arith, q.agree.within.1))
  differ_once (x ∷ xs) (y ∷ ys) {j = zero} {k = suc k} p q = absurd (p.here (differ_earlier q).0)
  differ_once [] ys {j = suc j} p q = absurd (omega (arith, p.agree.within.0))
  differ_once (x ∷ xs) [] {j = suc j} p q = absurd (omega (arith, p.agree.within.1))
  differ_once (x ∷ xs) (y ∷ ys) {j = suc j} {k = zero} p q = absurd (q.here (differ_earlier p).0)
  differ_once (x ∷ xs) (y ∷ ys) {j = suc j} {k = suc k} p q = ap suc (differ_once xs ys (differ_earlier p).1 (differ_earlier q).1)

  unlike_self : (xs : List A) → Unlike xs xs → ⊥
  unlike_self [] p = p
  unlike_self (x ∷ xs) p = p refl

  -- lists that differ somewhere are not the same
  pub differ_apart : (xs ys : List A) (k : ℕ) → DifferAt xs ys k → xs ≡ ys → ⊥
  differ_apart xs ys k p e = unlike_self (drop k ys) (rw e at p.here)

  unlike_swap : (xs ys : List A) → Unlike xs ys → Unlike ys xs
  unlike_swap [] [] p = p
  unlike_swap [] (y ∷ ys) p = tt
  unlike_swap (x ∷ xs) [] p = tt
  unlike_swap (x ∷ xs) (y ∷ ys) p = λ e. p (sym e)

  -- whichever list comes first
  pub differ_swap : {xs ys : List A} {k : ℕ} → DifferAt xs ys k → DifferAt ys xs k
  differ_swap {xs} {ys} {k} p =
      let e = p.agree in
      record {
        agree = record { within = (e.within.1, e.within.0); front = sym e.front };
        here = unlike_swap (drop k xs) (drop k ys) p.here;
      }

-- what the first items decide
abbrev pub first_order : {A : Type 0} → (A → A → Ordering) → List A → List A → Ordering
first_order o [] [] = eq
first_order o [] (y ∷ ys) = lt
first_order o (x ∷ xs) [] = gt
first_order o (x ∷ xs) (y ∷ ys) = o x y

-- one more item, if two compare as equal
abbrev pub counted : Ordering → ℕ → ℕ
counted c k = elim c [ lt ↦ 0 | eq ↦ suc k | gt ↦ 0 ]

module _ {A : Type 0} {o : A → A → Ordering} (O : IsOrder o) where
  -- of two different lists `differ_at` is the place
  pub differ_first : (xs ys : List A) → (xs ≡ ys → ⊥) → DifferAt xs ys (differ_at o xs ys)
  unfolding differ_at
  differ_first [] [] differ = absurd (differ refl)
  differ_first [] (y ∷ ys) differ = record { agree = agree_none [] (y ∷ ys); here = tt }
  differ_first (x ∷ xs) [] differ = record { agree = agree_none (x ∷ xs) []; here = tt }
  differ_first (x ∷ xs) (y ∷ ys) differ = go (o x y) refl (differ_first xs ys)
    where
      here : (o x y ≡ eq → ⊥) → DifferAt (x ∷ xs) (y ∷ ys) 0
      here h = record { agree = agree_none (x ∷ xs) (y ∷ ys); here = λ e. h (rw e (O.reflexive y)) }

      go : (c : Ordering) → o x y ≡ c → ((xs ≡ ys → ⊥) → DifferAt xs ys (differ_at o xs ys))
          → DifferAt (x ∷ xs) (y ∷ ys) (counted c (differ_at o xs ys))
      go lt e rest = here (λ d. lt≢eq (sym e ∙ d))
      go eq e rest = differ_later (O.tie e) (rest (λ d. differ (ap₂ ◌∷◌ (O.tie e) d)))
      go gt e rest = here (λ d. gt≢eq (sym e ∙ d))

  -- and their order is decided there
  pub differ_order : (xs ys : List A) (k : ℕ) → DifferAt xs ys k → lexicographic o xs ys ≡ first_order o (drop k xs) (drop k ys)
  unfolding lexicographic then
  differ_order [] [] zero p = absurd p.here
  differ_order [] (y ∷ ys) zero p = refl
  differ_order (x ∷ xs) [] zero p = refl
  differ_order (x ∷ xs) (y ∷ ys) zero p = cases (o x y) (λ c. rw c) (λ c. absurd (p.here (O.tie c))) (λ c. rw c)
  differ_order [] ys (suc k) p = absurd (omega (arith, p.agree.within.0))
  differ_order (x ∷ xs) [] (suc k) p = absurd (omega (arith, p.agree.within.1))
  differ_order (x ∷ xs) (y ∷ ys) (suc k) p =
      let q = differ_earlier p in rw (q.0, O.reflexive y) (differ_order xs ys k q.1)

  -- a list agrees with itself up to its end
  pub differ_same : (xs : List A) → differ_at o xs xs ≡ length xs
  unfolding differ_at
  differ_same [] = refl
  differ_same (x ∷ xs) = rw (differ_at, O.reflexive x) (ap suc (differ_same xs))

  -- a list that is a beginning of another differs from it at its end, whichever comes first
  pub beginning_at : (xs : List A) (y : A) (ys : List A)
      → (differ_at o xs (xs ++ (y ∷ ys)) ≡ length xs) × (differ_at o (xs ++ (y ∷ ys)) xs ≡ length xs)
  unfolding differ_at
  beginning_at [] y ys = (refl, refl)
  beginning_at (x ∷ xs) y ys = let (e, f) = beginning_at xs y ys in (rw (O.reflexive x) (ap suc e), rw (O.reflexive x) (ap suc f))
