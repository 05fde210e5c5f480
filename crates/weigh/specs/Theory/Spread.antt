-- The search by least total ends in a state that it cannot leave: nothing waits, right comes up, or the node limit is met.
use Rattle.std.specs.Prelude.{ℕ, suc, ◌+◌, ◌≤◌, ◌<◌, ◌≡◌, ◌⊎◌, Bool, true, false, List, [], ◌∷◌, length}
use Rattle.std.proofs.Common.{arith, sym, ◌∙◌, ap, inl, inr, ⊎_elim}
use Rattle.std.proofs.Math.Path.{refl}
use Rattle.std.proofs.lemmas.Bool.{false≢true}
use Rattle.terms.specs.Lists.{◌∈◌, here, there, not-in-nil, cons-cases, in-cast, in_map, Distinct, none, more}
use Rattle.terms.specs.Term.{Term}
use Rattle.terms.specs.Theory.Reflects.{Reflects}
use Rattle.search.specs.Line.{Line}
use Rattle.weigh.specs.Weigh.{Weights, Weighed, start, note_lines, mark, Turn, ends, arrives, opens, turn, spread, opened_count, left_unopened, terms}
use Rattle.weigh.specs.Claims.{LeftUnopened}
use Rattle.weigh.specs.Theory.Least.{Turned, turn_is}
use Rattle.weigh.specs.Theory.State.{Tries, State, opens_state, opens_count, starts}

-- the node limit is met unless nothing waits or right comes up
abbrev pub Met : Turn → ℕ → ℕ → Type 0
Met ends nodes e = Unit {0}
Met (arrives x) nodes e = Unit {0}
Met (opens x) nodes e = e ≡ nodes

pub record Ended (Ok : Term → Line → Type 0) (w : Weights) (cost : ℕ) (left right : Term) (nodes : ℕ) (noted : List Weighed) : Type 0 where
  pub state : State Ok w cost left right noted
  pub most : opened_count noted ≤ nodes
  pub met : Met (turn right noted) nodes (opened_count noted)

module _ {Ok : Term → Line → Type 0} {next : Term → List Line} (tries : Tries Ok next) (w : Weights) (cost : ℕ) (left right : Term) (nodes : ℕ) where
  full : (t : Turn) (e : ℕ) → e ≡ nodes → Met t nodes e
  full ends e h = tt
  full (arrives x) e h = tt
  full (opens x) e h = h

  spread_ends : (f : ℕ) (noted : List Weighed) → State Ok w cost left right noted → f + opened_count noted ≡ nodes
      → Ended Ok w cost left right nodes (spread next w cost right f noted)
  unfolding spread
  spread_ends ℕ.zero noted state e = record { state = state; most = omega arith; met = full (turn right noted) (opened_count noted) (omega arith) }
  spread_ends (suc f) noted state e = go (turn right noted) refl (turn_is right noted) (λ zs s h. spread_ends f zs s h)
    where
      stays : Met (turn right noted) nodes (opened_count noted) → Ended Ok w cost left right nodes noted
      stays h = record { state = state; most = omega arith; met = h }

      go : (t : Turn) → turn right noted ≡ t → Turned right noted t
          → ((zs : List Weighed) → State Ok w cost left right zs → f + opened_count zs ≡ nodes → Ended Ok w cost left right nodes (spread next w cost right f zs))
          → Ended Ok w cost left right nodes (elim t [
            | ends ↦ noted
            | arrives x ↦ noted
            | opens x ↦ spread next w cost right f (note_lines w cost x (next x.term) (mark x.term noted))
          ])
      go ends p h on = stays (rw p tt)
      go (arrives x) p h on = stays (rw p tt)
      go (opens x) p (leads, other) on = on _ (opens_state tries state leads other) (omega (arith, opens_count tries state leads))

  pub spread_ended : Ended Ok w cost left right nodes (spread next w cost right nodes (start left ∷ []))
  unfolding opened_count
  spread_ended = spread_ends nodes (start left ∷ []) (starts left right) (omega arith)

-- the opened terms
pub opened_terms : List Weighed → List Term
opened_terms [] = []
opened_terms (x ∷ xs) = elim x.opened [ true ↦ x.term ∷ opened_terms xs | false ↦ opened_terms xs ]

opened_cases : (P : List Term → Type 0) (x : Weighed) (xs : List Weighed) → (x.opened ≡ true → P (x.term ∷ opened_terms xs))
    → (x.opened ≡ false → P (opened_terms xs)) → P (opened_terms (x ∷ xs))
unfolding opened_terms
opened_cases P x xs is is-not = go x.opened refl
  where
    go : (b : Bool) → x.opened ≡ b → P (elim b [ true ↦ x.term ∷ opened_terms xs | false ↦ opened_terms xs ])
    go true e = is e
    go false e = is-not e

pub opened_length : (xs : List Weighed) → opened_count xs ≡ length (opened_terms xs)
unfolding opened_terms opened_count
opened_length [] = refl
opened_length (x ∷ xs) = go x.opened (opened_length xs)
  where
    go : (b : Bool) → opened_count xs ≡ length (opened_terms xs)
        → elim b [ true ↦ suc (opened_count xs) | false ↦ opened_count xs ] ≡ length {A = Term} (elim b [ true ↦ x.term ∷ opened_terms xs | false ↦ opened_terms xs ])
    go true e = ap suc e
    go false e = e

pub opened_member : (xs : List Weighed) {t : Term} → t ∈ opened_terms xs → (x : Weighed) × x ∈ xs × (x.opened ≡ true) × (x.term ≡ t)
unfolding opened_terms
opened_member [] = λ m. absurd (not-in-nil m)
opened_member (x ∷ xs) {t} =
    opened_cases (λ l. t ∈ l → (z : Weighed) × z ∈ x ∷ xs × (z.opened ≡ true) × (z.term ≡ t)) x xs
    (λ o m. ⊎_elim (λ e. (x, here refl, o, sym e)) (λ i. later (opened_member xs i)) (cons-cases m))
    (λ o m. later (opened_member xs m))
  where
    later : (z : Weighed) × z ∈ xs × (z.opened ≡ true) × (z.term ≡ t) → (z : Weighed) × z ∈ x ∷ xs × (z.opened ≡ true) × (z.term ≡ t)
    later (z, i, o, e) = (z, there i, o, e)

pub opened_has : (xs : List Weighed) (x : Weighed) → x ∈ xs → x.opened ≡ true → x.term ∈ opened_terms xs
opened_has [] x m o = absurd (not-in-nil m)
opened_has (z ∷ zs) x m o =
    opened_cases (λ l. x.term ∈ l) z zs
    (λ p. ⊎_elim (λ e. here (ap (λ y. y.term) e)) (λ i. there (opened_has zs x i o)) (cons-cases m))
    (λ p. ⊎_elim (λ e. absurd (false≢true (sym p ∙ ap (λ y. y.opened) (sym e) ∙ o))) (λ i. opened_has zs x i o) (cons-cases m))

pub opened_distinct : (xs : List Weighed) → Distinct (terms xs) → Distinct (opened_terms xs)
unfolding opened_terms
opened_distinct [] d = none
opened_distinct (x ∷ xs) (more h d) =
    opened_cases Distinct x xs
    (λ o. more (λ m. let (z, i, p, e) = opened_member xs m in h (in-cast (sym e) (in_map (λ (y : Weighed). y.term) i))) (opened_distinct xs d))
    (λ o. opened_distinct xs d)

-- whether a noted term was left unopened
pub left_unopened_reflects : (xs : List Weighed) → Reflects (LeftUnopened xs) (left_unopened xs)
unfolding left_unopened
left_unopened_reflects [] = λ (x, m, o). not-in-nil m
left_unopened_reflects (x ∷ xs) = go x.opened refl (left_unopened xs) (left_unopened_reflects xs)
  where
    go : (b : Bool) → x.opened ≡ b → (c : Bool) → Reflects (LeftUnopened xs) c → Reflects (LeftUnopened (x ∷ xs)) (elim b [ true ↦ c | false ↦ true ])
    go true e true (z, m, o) = (z, there m, o)
    go true e false h = λ (z, m, o). ⊎_elim (λ p. false≢true (sym o ∙ ap (λ y. y.opened) p ∙ e)) (λ i. h (z, i, o)) (cons-cases m)
    go false e c h = (x, here refl, e)

-- fewer are opened than noted, where one waits
pub opened_fewer : (xs : List Weighed) → opened_count xs ≤ length xs
unfolding opened_count
opened_fewer [] = omega arith
opened_fewer (x ∷ xs) = go x.opened (opened_fewer xs)
  where
    go : (b : Bool) → opened_count xs ≤ length xs → elim b as (λ _. ℕ) [ true ↦ suc (opened_count xs) | false ↦ opened_count xs ] ≤ suc (length xs)
    go true h = omega arith
    go false h = omega arith

pub opened_not_all : (xs : List Weighed) → LeftUnopened xs → opened_count xs < length xs
unfolding opened_count
opened_not_all [] (z, m, o) = absurd (not-in-nil m)
opened_not_all (x ∷ xs) (z, m, o) = go x.opened refl (⊎_elim (λ p. inl (sym (ap (λ y. y.opened) p) ∙ o)) (λ i. inr (opened_not_all xs (z, i, o))) (cons-cases m))
  where
    go : (b : Bool) → x.opened ≡ b → (x.opened ≡ false) ⊎ (opened_count xs < length xs)
        → elim b as (λ _. ℕ) [ true ↦ suc (opened_count xs) | false ↦ opened_count xs ] < suc (length xs)
    go true e (inl f) = absurd (false≢true (sym f ∙ e))
    go true e (inr h) = omega arith
    go false e h = omega (arith, opened_fewer xs)
