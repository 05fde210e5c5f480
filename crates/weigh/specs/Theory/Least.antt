-- The least of the terms not opened.
use Prim.Native.Nat.{ℕ, ◌≤◌, ◌<◌, compare}
use Rattle.std.proofs.Common.{arith, sym, ◌∙◌, ap, ⊎_elim, leb→le}
use Rattle.std.proofs.Math.Path.{◌≡◌, refl}
use Rattle.std.specs.Prelude.{◌⊎◌, Bool, true, false, List, [], ◌∷◌}
use Rattle.std.proofs.Math.Logic.{inl, inr}
use Rattle.std.proofs.lemmas.Bool.{false≢true}
use Rattle.std.proofs.Math.Option.{Option, none, some}
use Rattle.terms.specs.Lists.{◌∈◌, here, there, not-in-nil, cons-cases}
use Rattle.terms.specs.Compare.{Ordering, lt, eq, gt, then}
use Rattle.terms.specs.Term.{Term, order, same}
use Rattle.terms.specs.Theory.Order.{flip_lt, flip_gt, cases, compare_order, gt≢eq, irreflexive}
use Rattle.terms.specs.Theory.Reflects.{Reflects}
use Rattle.terms.specs.Theory.TermOrder.{term_order, same_reflects}
use Rattle.weigh.specs.Weigh.{Weighed, by_total, lesser, least, Turn, ends, arrives, opens, turn}

-- x comes no later than y: by total, ties in term order
abbrev pub Before : Weighed → Weighed → Type 0
Before x y = (x.total < y.total) ⊎ ((x.total ≡ y.total) × (order y.term x.term ≡ lt → ⊥))

pub before_total : (x y : Weighed) → Before x y → x.total ≤ y.total
before_total x y (inl h) = omega arith
before_total x y (inr (e, h)) = omega arith

before_transitive : (x y z : Weighed) → Before x y → Before y z → Before x z
before_transitive x y z (inl h) k = let i = before_total y z k in inl (omega arith)
before_transitive x y z (inr (e, h)) (inl k) = inl (omega arith)
before_transitive x y z (inr (e, h)) (inr (f, k)) = inr (
  e ∙ f,
  λ c.
      cases (order y.term x.term) h
      (λ d. k (rw (term_order.tie d) c))
      (λ d. k (term_order.transitive c (flip_gt term_order d))),
)

-- no two terms come before one another
pub before_both : (x y : Weighed) → Before x y → Before y x → x.term ≡ y.term
before_both x y (inl h) k = let i = before_total y x k in absurd (omega arith)
before_both x y (inr (e, h)) (inl k) = absurd (omega arith)
before_both x y (inr (e, h)) (inr (f, k)) = cases (order x.term y.term) (λ c. absurd (k c)) term_order.tie (λ c. absurd (h (flip_gt term_order c)))

compare_lt : (m n : ℕ) → compare m n ≡ lt → m < n
compare_lt m n e =
    let h : m ≤ n = leb→le m n (rw e tt) in
    let k : (m ≡ n → ⊥) = irreflexive compare_order e in
    omega arith

-- what the comparison says
module _ (x y : Weighed) where
  by_total_before : (c : Ordering) → compare x.total y.total ≡ c → (d : Ordering) → order x.term y.term ≡ d → (then c d ≡ gt → ⊥) → Before x y
  unfolding then
  by_total_before lt e d f h = inl (compare_lt x.total y.total e)
  by_total_before eq e d f h = inr (compare_order.tie e, λ c. h (sym f ∙ flip_lt term_order c))
  by_total_before gt e d f h = absurd (h refl)

  by_total_after : (c : Ordering) → compare x.total y.total ≡ c → (d : Ordering) → order x.term y.term ≡ d → then c d ≡ gt → Before y x
  unfolding then
  by_total_after lt e d f h = let z : ◌≡◌ {A = ℕ} 0 1 = cc in absurd (omega arith)
  by_total_after eq e d f h = inr (sym (compare_order.tie e), λ c. let z : ◌≡◌ {A = ℕ} 0 1 = cc in omega arith)
  by_total_after gt e d f h = inl (compare_lt y.total x.total (flip_gt compare_order e))

-- of different terms the one that comes before is the lesser
pub before_lt : (x y : Weighed) → Before x y → (x.term ≡ y.term → ⊥) → by_total x y ≡ lt
unfolding then
before_lt x y before other = go (compare x.total y.total) refl (order x.term y.term) refl
  where
    after : {c : Ordering} → compare x.total y.total ≡ c → {d : Ordering} → order x.term y.term ≡ d → then c d ≡ gt → ⊥
    after {c} e {d} f g = other (before_both x y before (by_total_after x y c e d f g))

    go : (c : Ordering) → compare x.total y.total ≡ c → (d : Ordering) → order x.term y.term ≡ d → then c d ≡ lt
    go lt e d f = refl
    go eq e lt f = refl
    go eq e eq f = absurd (other (term_order.tie f))
    go eq e gt f = absurd (after e f refl)
    go gt e d f = absurd (after e f refl)

-- x is the least of those in the list that are not opened; none means that all are opened
abbrev pub Leads : List Weighed → Weighed → Type 0
Leads xs x = x ∈ xs × (x.opened ≡ false) × ((z : Weighed) → z ∈ xs → z.opened ≡ false → Before x z)

abbrev pub Least : List Weighed → Option Weighed → Type 0
Least xs none = (z : Weighed) → z ∈ xs → z.opened ≡ false → ⊥
Least xs (some x) = Leads xs x

before_self : (x : Weighed) → Before x x
before_self x = inr (refl, λ c. irreflexive term_order c refl)

module _ (x : Weighed) (xs : List Weighed) where
  first_least : x.opened ≡ false → ((z : Weighed) → z ∈ xs → z.opened ≡ false → Before x z) → Leads (x ∷ xs) x
  first_least e h = (here refl, e, λ z m o. ⊎_elim (λ (p : z ≡ x). rw p (before_self x)) (λ n. h z n o) (cons-cases m))

  later_least : (y : Weighed) → Leads xs y → (x.opened ≡ false → Before y x) → Leads (x ∷ xs) y
  later_least y (m, e, h) k =
      (there m, e, λ z n o. ⊎_elim (λ (p : z ≡ x). rw p (k (sym (ap (λ z. z.opened) p) ∙ o))) (λ n. h z n o) (cons-cases n))

  lesser_least : x.opened ≡ false → (o : Option Weighed) → Least xs o → Leads (x ∷ xs) (lesser x o)
  unfolding lesser
  lesser_least e none h = first_least e (λ z m o. absurd (h z m o))
  lesser_least e (some y) h = go (by_total x y) refl
    where
      go : (c : Ordering) → by_total x y ≡ c → Leads (x ∷ xs) (elim c [ lt ↦ x | eq ↦ x | gt ↦ y ])
      go lt f = first_least e (λ z m o.
          before_transitive x y z (by_total_before x y (compare x.total y.total) refl (order x.term y.term) refl (λ g. let z : ◌≡◌ {A = ℕ} 0 1 = cc in omega arith)) (h.2 z m o))
      go eq f = first_least e (λ z m o.
          before_transitive x y z (by_total_before x y (compare x.total y.total) refl (order x.term y.term) refl (λ g. gt≢eq (sym g ∙ f))) (h.2 z m o))
      go gt f = later_least y h (λ o. by_total_after x y (compare x.total y.total) refl (order x.term y.term) refl f)

  skip_least : x.opened ≡ true → (o : Option Weighed) → Least xs o → Least (x ∷ xs) o
  skip_least e none h = λ z m o. ⊎_elim (λ (p : z ≡ x). false≢true (sym o ∙ ap (λ z. z.opened) p ∙ e)) (λ n. h z n o) (cons-cases m)
  skip_least e (some y) h = later_least y h (λ o. absurd (false≢true (sym o ∙ e)))

pub least_is : (xs : List Weighed) → Least xs (least xs)
unfolding least
least_is [] = λ z m o. not-in-nil m
least_is (x ∷ xs) = go x.opened refl (least_is xs)
  where
    go : (b : Bool) → x.opened ≡ b → Least xs (least xs) → Least (x ∷ xs) (elim b [ true ↦ least xs | false ↦ some (lesser x (least xs)) ])
    go true e h = skip_least x xs e (least xs) h
    go false e h = lesser_least x xs e (least xs) h

abbrev pub Turned : Term → List Weighed → Turn → Type 0
Turned right noted ends = (z : Weighed) → z ∈ noted → z.opened ≡ false → ⊥
Turned right noted (arrives x) = Leads noted x × (x.term ≡ right)
Turned right noted (opens x) = Leads noted x × (x.term ≡ right → ⊥)

pub turn_is : (right : Term) (noted : List Weighed) → Turned right noted (turn right noted)
unfolding turn
turn_is right noted = go (least noted) (least_is noted)
  where
    named : (x : Weighed) → Leads noted x → (b : Bool) → Reflects (x.term ≡ right) b → Turned right noted (elim b [ true ↦ arrives x | false ↦ opens x ])
    named x h true e = (h, e)
    named x h false e = (h, e)

    go : (o : Option Weighed) → Least noted o
        → Turned right noted (elim o [ none ↦ ends | some x ↦ elim (same x.term right) [ true ↦ arrives x | false ↦ opens x ] ])
    go none h = h
    go (some x) h = named x h (same x.term right) (same_reflects x.term right)
