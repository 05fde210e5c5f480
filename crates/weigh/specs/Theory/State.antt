-- The state of a search by least total: what the noted terms say while it runs. It is about any kind of line.
use Rattle.std.specs.Prelude.{ℕ, suc, ◌+◌, ◌≤◌, ◌<◌, ◌≡◌, refl, ◌⊎◌, Bool, true, false, List, [], ◌∷◌, ◌++◌}
use Rattle.std.proofs.Common.{arith, sym, ◌∙◌, ap}
use Rattle.std.proofs.Math.Logic.{inl, inr, ⊎_elim}
use Rattle.std.proofs.lemmas.Bool.{false≢true}
use Rattle.terms.specs.Lists.{◌∈◌, here, not-in-nil, only_one, Distinct, none, more}
use Rattle.terms.specs.Term.{Term, same}
use Rattle.terms.specs.Theory.Order.{below?}
use Rattle.terms.specs.Theory.Reflects.{Reflects}
use Rattle.terms.specs.Theory.TermOrder.{same_reflects}
use Rattle.search.specs.Line.{Line}
use Rattle.search.specs.Path.{Path, end, step}
use Rattle.search.specs.Theory.Frontier.{path_snoc}
use Rattle.weigh.specs.Weigh.{Weights, weight, Weighed, start, led, note_lines, mark, opened_count, terms}
use Rattle.weigh.specs.Theory.Least.{before_total, Leads}
use Rattle.weigh.specs.Theory.Noting.{Near, Takes, takes, opened, mark_terms, same_entry, Marks, marks}

-- the lines that are Ok are tried, but for those back to their source
pub record Tries (Ok : Term → Line → Type 0) (next : Term → List Line) : Type 0 where
  pub sound : (t : Term) (x : Line) → x ∈ next t → Ok t x
  pub complete : (t : Term) (x : Line) → Ok t x → (x.result ≡ t) ⊎ x ∈ next t

pub weight_snoc : (w : Weights) (xs : List Line) (y : Line) → weight w (xs ++ (y ∷ [])) ≡ weight w xs + w y.law
unfolding weight
weight_snoc w [] y = omega arith
weight_snoc w (x ∷ xs) y = omega (arith, weight_snoc w xs y)

-- what the last line of a path weighs
pub last_weight : Weights → List Line → ℕ
last_weight w [] = 0
last_weight w (x ∷ []) = w x.law
last_weight w (x ∷ y ∷ ys) = last_weight w (y ∷ ys)

pub last_snoc : (w : Weights) (xs : List Line) (y : Line) → last_weight w (xs ++ (y ∷ [])) ≡ w y.law
unfolding last_weight
last_snoc w [] y = refl
last_snoc w (x ∷ []) y = refl
last_snoc w (x ∷ z ∷ zs) y = last_snoc w (z ∷ zs) y

pub record State (Ok : Term → Line → Type 0) (w : Weights) (cost : ℕ) (left right : Term) (noted : List Weighed) : Type 0 where
  pub distinct : Distinct (terms noted)
  pub trail : (x : Weighed) → x ∈ noted → Path Ok left x.trail x.term
  pub total : (x : Weighed) → x ∈ noted → x.total ≡ weight w x.trail
  pub allowed : (x : Weighed) → x ∈ noted → x.total ≤ cost
  pub start : Near noted left 0
  pub closed : (x : Weighed) → x ∈ noted → x.opened ≡ true → (y : Line) → Ok x.term y → x.total + w y.law ≤ cost
      → Near noted y.result (x.total + w y.law)
  pub behind : (x y : Weighed) → x ∈ noted → y ∈ noted → x.opened ≡ true → y.opened ≡ false → x.total ≤ y.total
  pub free : (x : Weighed) → x ∈ noted → x.opened ≡ true → x.term ≡ right → ⊥
  -- the term before the last line was opened
  pub last : (x y : Weighed) → x ∈ noted → y ∈ noted → y.opened ≡ false → x.total ≤ y.total + last_weight w x.trail

-- one that is not heavier than k was left unopened
abbrev pub Waits : List Weighed → ℕ → Type 0
Waits noted k = (z : Weighed) × z ∈ noted × (z.opened ≡ false) × (z.total ≤ k)

pub opened_or_not : (b : Bool) → (b ≡ true) ⊎ (b ≡ false)
opened_or_not true = inl refl
opened_or_not false = inr refl

module _ {Ok : Term → Line → Type 0} {w : Weights} {cost : ℕ} {left right : Term} {noted : List Weighed} (state : State Ok w cost left right noted) where
  -- a path of at most cost leads to a noted term, or leaves the opened terms at one that waits
  leaves : (j k : ℕ) {s t : Term} {ys : List Line} → Path Ok s ys t → j + weight w ys ≤ k → k ≤ cost → Near noted s j → Near noted t k ⊎ Waits noted k
  unfolding weight
  leaves j k end h c (z, m, e, d) = inl (z, m, e, omega arith)
  leaves j k (step x ok path) h c (z, m, e, d) =
      ⊎_elim
      (λ o.
      let (a, n, f, g) = state.closed z m o x (rw e ok) (omega arith) in
      leaves (j + w x.law) k path (omega arith) c (a, n, f, omega arith))
      (λ o. inr (z, m, o, omega arith))
      (opened_or_not z.opened)

  pub meets : {t : Term} {ys : List Line} → Path Ok left ys t → weight w ys ≤ cost → Near noted t (weight w ys) ⊎ Waits noted (weight w ys)
  meets {ys} path h = leaves 0 (weight w ys) path (omega arith) h state.start

  -- a path to right comes by one that waits
  pub passes : {ys : List Line} → Path Ok left ys right → weight w ys ≤ cost → Waits noted (weight w ys)
  passes path h =
      ⊎_elim
      (λ (z, m, e, d). ⊎_elim (λ o. absurd (state.free z m o e)) (λ o. (z, m, o, d)) (opened_or_not z.opened))
      (λ k. k)
      (meets path h)

  -- so it weighs at least as much as the least of those
  pub bounds : {x : Weighed} → Leads noted x → {ys : List Line} → Path Ok left ys right → x.total ≤ weight w ys
  bounds {x} (m, o, h) {ys} path = go (below? (weight w ys) (suc cost))
    where
      go : (weight w ys < suc cost) ⊎ (suc cost ≤ weight w ys) → x.total ≤ weight w ys
      go (inl k) = let (z, n, p, q) = passes path (omega arith) in let b = before_total x z (h z n p) in omega arith
      go (inr k) = let c = state.allowed x m in omega arith

-- opening the least that waits
module _ {Ok : Term → Line → Type 0} {next : Term → List Line} (tries : Tries Ok next) {w : Weights} {cost : ℕ} {left right : Term}
    {noted : List Weighed} (state : State Ok w cost left right noted) {x : Weighed} (leads : Leads noted x) where
  abbrev pub marked : List Weighed
  marked = mark x.term noted

  abbrev pub after : List Weighed
  after = note_lines w cost x (next x.term) marked

  pub marking : Marks x noted marked
  marking = marks x noted state.distinct leads.0

  pub taking : Takes w cost x (next x.term) marked after
  taking = takes w cost x (next x.term) marked

  -- what is noted now was, is x, or is led to from x
  pub now_noted : (P : Weighed → Type 0) → ((a : Weighed) → a ∈ noted → (a.term ≡ x.term → ⊥) → P a) → P (opened x)
      → ((y : Line) → y ∈ next x.term → x.total + w y.law ≤ cost → P (led w x y)) → (a : Weighed) → a ∈ after → P a
  now_noted P old this new a i =
      ⊎_elim (λ j. ⊎_elim (λ (k, h). old a k h) (λ (e : a ≡ opened x). rw e this) (marking.made a j))
      (λ (y, j, e, c). rw e (new y j (rw e at c)))
      (taking.made a i)

  near_marked : (s : Term) (k : ℕ) → Near noted s k → Near marked s k
  near_marked s k (z, i, e, h) = go (same z.term x.term) (same_reflects z.term x.term)
    where
      go : (b : Bool) → Reflects (z.term ≡ x.term) b → Near marked s k
      go true p = let q : z ≡ x = same_entry noted state.distinct z x i leads.0 p in (opened x, marking.has, sym p ∙ e, omega (arith, ap (λ y. y.total) q))
      go false p = (z, marking.kept z i p, e, h)

  pub near_after : (s : Term) (k : ℕ) → Near noted s k → Near after s k
  near_after s k n = taking.near s k (near_marked s k n)

  -- the lines on x are closed
  x_closed : (y : Line) → Ok x.term y → x.total + w y.law ≤ cost → Near after y.result (x.total + w y.law)
  x_closed y ok c =
      ⊎_elim
      (λ e. near_after y.result (x.total + w y.law) (x, leads.0, sym e, omega arith))
      (λ i. taking.covers y i c)
      (tries.complete x.term y ok)

  -- an opened term is no heavier than x, and one that waits no lighter
  pub opened_light : (a : Weighed) → a ∈ after → a.opened ≡ true → a.total ≤ x.total
  opened_light =
      now_noted (λ a. a.opened ≡ true → a.total ≤ x.total) (λ a i h o. state.behind a x i leads.0 o leads.1) (λ o. omega arith)
      (λ y i c o. absurd (false≢true o))

  waiting_heavy : (a : Weighed) → a ∈ after → a.opened ≡ false → x.total ≤ a.total
  waiting_heavy =
      now_noted (λ a. a.opened ≡ false → x.total ≤ a.total) (λ a i h o. before_total x a (leads.2 a i o)) (λ o. omega arith)
      (λ y i c o. omega arith)

  pub opens_state : (x.term ≡ right → ⊥) → State Ok w cost left right after
  opens_state other =
      record {
        distinct = taking.distinct (rw (mark_terms x.term noted) state.distinct);
        trail = now_noted (λ a. Path Ok left a.trail a.term) (λ a i h. state.trail a i) (state.trail x leads.0)
            (λ y i c. path_snoc (state.trail x leads.0) y (tries.sound x.term y i));
        total = now_noted (λ a. a.total ≡ weight w a.trail) (λ a i h. state.total a i) (state.total x leads.0)
            (λ y i c. omega (arith, state.total x leads.0, weight_snoc w x.trail y));
        allowed = now_noted (λ a. a.total ≤ cost) (λ a i h. state.allowed a i) (state.allowed x leads.0) (λ y i c. c);
        start = near_after left 0 state.start;
        closed =
            now_noted
            (λ a. a.opened ≡ true → (y : Line) → Ok a.term y → a.total + w y.law ≤ cost → Near after y.result (a.total + w y.law))
            (λ a i h o y ok c. near_after y.result (a.total + w y.law) (state.closed a i o y ok c))
            (λ o. x_closed)
            (λ y i c o. absurd (false≢true o));
        behind = λ a b i j o p. omega (arith, opened_light a i o, waiting_heavy b j p);
        free = now_noted (λ a. a.opened ≡ true → a.term ≡ right → ⊥) (λ a i h. state.free a i) (λ o. other) (λ y i c o. absurd (false≢true o));
        last = λ a b i j o.
            now_noted (λ a. a.total ≤ b.total + last_weight w a.trail)
            (λ a i h. omega (arith, state.last a x i leads.0 leads.1, waiting_heavy b j o))
            (omega (arith, waiting_heavy b j o))
            (λ y i c. omega (arith, last_snoc w x.trail y, waiting_heavy b j o))
            a i;
      }

  -- nor is one heavier before the lines on x are taken
  pub marked_light : (a : Weighed) → a ∈ marked → a.opened ≡ true → a.total ≤ x.total
  marked_light a i o =
      ⊎_elim (λ (j, h). state.behind a x j leads.0 o leads.1) (λ e. let q : a.total ≡ x.total = ap (λ z. z.total) e in omega arith) (marking.made a i)

  -- one more is opened
  pub opens_count : opened_count after ≡ suc (opened_count noted)
  opens_count = taking.count marked_light ∙ marking.count leads.1

-- left is noted
pub starts : {Ok : Term → Line → Type 0} {w : Weights} {cost : ℕ} (left right : Term) → State Ok w cost left right (start left ∷ [])
unfolding weight
starts left right =
    record {
      distinct = more not-in-nil none;
      trail = λ x m. rw (only_one m) end;
      total = λ x m. rw (only_one m) refl;
      allowed = λ x m. rw (only_one m) (omega arith);
      start = (start left, here refl, refl, omega arith);
      closed = λ x m o. absurd (waits x m o);
      behind = λ x y m n o. absurd (waits x m o);
      free = λ x m o. absurd (waits x m o);
      last = λ x y m n o. rw (only_one m) (omega arith);
    }
  where
    waits : (x : Weighed) → x ∈ start left ∷ [] → x.opened ≡ true → ⊥
    waits x m o = false≢true (sym (ap (λ z. z.opened) (only_one m)) ∙ o)
