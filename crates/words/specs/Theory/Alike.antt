-- Equations have one canonical form exactly when a renaming turns one into the other, sides exchanged or not: over whatever is renamed.
use Rattle.std.specs.Prelude.{◌≡◌, ℕ, ◌<◌, Bool, T, ◌⊎◌, ◌↔◌, List, ◌++◌, length, ◌≢◌, refl}
use Rattle.std.proofs.Common.{sym, ◌∙◌, ap, inl, inr, ⊎_elim}
use Rattle.std.proofs.Math.Path.{ap₂}
use Rattle.terms.specs.Lists.{◌∈◌, in_left, in_right, append_cases}
use Rattle.terms.specs.Compare.{Ordering, gt}
use Rattle.terms.specs.Equation.{Equation, orient}
use Rattle.terms.specs.Theory.Order.{IsOrder, flip_lt, cases}
use Rattle.terms.specs.Theory.Equation.{orient_either, orient_swap}
use Rattle.words.specs.Rename.{order_equations}
use Rattle.words.specs.Theory.Least.{Depends, equation_order}
use Rattle.words.specs.Theory.Names.{Renaming, unchanged, Image, undo, undone, undoing, joining, Listing, Naming, naming_renaming, naming_gives, as_many, naming_after}

-- what the two sides of an equation have

swap_in : {A : Type 0} (xs ys : List A) {z : A} → z ∈ xs ++ ys → z ∈ ys ++ xs
swap_in xs ys i = ⊎_elim (in_right ys) (in_left xs) (append_cases xs i)

-- the letters of both sides, sides exchanged
exchanged : (xs ys : List ℕ) → Image (λ n. n) (xs ++ ys) (ys ++ xs)
exchanged xs ys n = (λ i. (n, swap_in ys xs i, refl), λ (m, i, e). rw e at (swap_in xs ys i))

-- the same two sides, one way round or the other
abbrev Same_sides : {A : Type 0} → Equation A → A → A → Type 0
Same_sides e a b = ((e.left ≡ a) × (e.right ≡ b)) ⊎ ((e.left ≡ b) × (e.right ≡ a))

orient_sides : {A : Type 0} (o : A → A → Ordering) (a b : A) → Same_sides (orient o a b) a b
orient_sides o a b = orient_either (λ x y. ((x ≡ a) × (y ≡ b)) ⊎ ((x ≡ b) × (y ≡ a))) o a b (inl (refl, refl)) (inr (refl, refl))

-- two equations with the same sides, one way round or the other
same_sides : {A : Type 0} {e : Equation A} {a b c d : A} → Same_sides e a b → Same_sides e c d → ((a ≡ c) × (b ≡ d)) ⊎ ((a ≡ d) × (b ≡ c))
same_sides (inl (p, q)) (inl (r, s)) = inl (sym p ∙ r, sym q ∙ s)
same_sides (inl (p, q)) (inr (r, s)) = inr (sym p ∙ r, sym q ∙ s)
same_sides (inr (p, q)) (inl (r, s)) = inr (sym q ∙ s, sym p ∙ r)
same_sides (inr (p, q)) (inr (r, s)) = inl (sym q ∙ s, sym p ∙ r)

module _ {A : Type 0} {o : A → A → Ordering} (O : IsOrder o) where
  neither_above : {x y : A} → (o x y ≢ gt) → (o y x ≢ gt) → x ≡ y
  neither_above {x} {y} p q = cases (o x y) (λ c. absurd (q (flip_lt O c))) O.tie (λ c. absurd (p c))

-- what renaming is to do; `Ok` things are left as they are by the renaming that changes no letter
pub record Renames {A : Type 0} (rename : (ℕ → ℕ) → A → A) (has : A → List ℕ) (Ok : A → Type 0) : Type 0 where
  pub depends : (s : A) → Depends rename (has s) s
  pub joins : (f g : ℕ → ℕ) (s : A) → rename g (rename f s) ≡ rename (λ n. g (f n)) s
  pub letters : (f : ℕ → ℕ) (s : A) → Image f (has s) (has (rename f s))
  pub stays : (s : A) → Ok s → rename (λ n. n) s ≡ s

-- a renaming turns the equation of s and t into that of u and v
pub record Turned {A : Type 0} (rename : (ℕ → ℕ) → A → A) (has : A → List ℕ) (free : ℕ → Bool) (s t u v : A) : Type 0 where
  pub new : ℕ → ℕ
  pub renaming : Renaming free (has s ++ has t) new
  pub left : rename new s ≡ u
  pub right : rename new t ≡ v

-- `canonical` gives the least equation over all namings
pub record Canonical {A : Type 0} (o : A → A → Ordering) (rename : (ℕ → ℕ) → A → A) (has : A → List ℕ) (free : ℕ → Bool) (names : List ℕ → List ℕ)
    (canonical : A → A → Equation A) : Type 0 where
  pub attained : (s t : A) → (f : ℕ → ℕ) × Naming free names (has s ++ has t) f × (canonical s t ≡ orient o (rename f s) (rename f t))
  pub least : (s t : A) (f : ℕ → ℕ) → Naming free names (has s ++ has t) f
      → order_equations o (canonical s t) (orient o (rename f s) (rename f t)) ≢ gt

module _ {A : Type 0} {rename : (ℕ → ℕ) → A → A} {has : A → List ℕ} {Ok : A → Type 0} (R : Renames rename has Ok) (free : ℕ → Bool) where
  abbrev Turns : (s t u v : A) → Type 0
  Turns = Turned rename has free

  both_letters : (f : ℕ → ℕ) (s t : A) → Image f (has s ++ has t) (has (rename f s) ++ has (rename f t))
  both_letters f s t n = (
    λ i.
        ⊎_elim (λ j. let (m, k, e) = (R.letters f s n).0 j in (m, in_left (has t) k, e)) (λ j. let (m, k, e) = (R.letters f t n).0 j in (m, in_right (has s) k, e))
        (append_cases (has (rename f s)) i),
    λ (m, i, e).
        ⊎_elim (λ j. in_left (has (rename f t)) ((R.letters f s n).1 (m, j, e))) (λ j. in_right (has (rename f s)) ((R.letters f t n).1 (m, j, e)))
        (append_cases (has s) i),
  )

  turned_image : {s t u v : A} (h : Turns s t u v) → Image h.new (has s ++ has t) (has u ++ has v)
  turned_image {s} {t} h = rw (← h.left, ← h.right) (both_letters h.new s t)

  turned_by : {s t : A} {f : ℕ → ℕ} → Renaming free (has s ++ has t) f → Turns s t (rename f s) (rename f t)
  turned_by {f = f} r = record { new = f; renaming = r; left = refl; right = refl }

  -- undone
  turned_back : {s t u v : A} → Ok s → Ok t → Turns s t u v → Turns u v s t
  turned_back {s} {t} {u} {v} ok ok' h =
      record {
        new = undo h.renaming;
        renaming = undoing h.renaming (turned_image h);
        left = restored s (λ n i. in_left (has t) i) ok h.left;
        right = restored t (λ n i. in_right (has s) i) ok' h.right;
      }
    where
      restored : (x : A) → ((n : ℕ) → n ∈ has x → n ∈ has s ++ has t) → Ok x → {y : A} → rename h.new x ≡ y → rename (undo h.renaming) y ≡ x
      restored x sub okx e =
          rw (← e)
          (R.joins h.new (undo h.renaming) x
          ∙ R.depends x (λ n. undo h.renaming (h.new n)) (λ n. n) (λ n i. undone h.renaming n (sub n i)) ∙ R.stays x okx)

  -- one after the other
  turned_on : {s t u v x y : A} → Turns s t u v → Turns u v x y → Turns s t x y
  turned_on {s} {t} h k =
      record {
        new = λ n. k.new (h.new n);
        renaming = joining h.renaming (turned_image h) k.renaming;
        left = sym (R.joins h.new k.new s) ∙ ap (rename k.new) h.left ∙ k.left;
        right = sym (R.joins h.new k.new t) ∙ ap (rename k.new) h.right ∙ k.right;
      }

  -- sides exchanged
  turned_swap : {s t u v : A} → Turns s t u v → Turns t s v u
  turned_swap {s} {t} h =
      let back : (n : ℕ) → n ∈ has t ++ has s → n ∈ has s ++ has t = λ n i. swap_in (has t) (has s) i in
      record {
        new = h.new;
        renaming = record {
          one_to_one = λ m n i j. h.renaming.one_to_one m n (back m i) (back n j);
          frees = λ n i. h.renaming.frees n (back n i);
          keeps = λ n i. h.renaming.keeps n (back n i);
        };
        left = h.right;
        right = h.left;
      }

  module _ {o : A → A → Ordering} (O : IsOrder o) {names : List ℕ → List ℕ} (L : Listing free names) {canonical : A → A → Equation A}
      (C : Canonical o rename has free names canonical) where
    P : IsOrder (order_equations o)
    P = equation_order O

    turned_below : {s t u v : A} → Turns s t u v → order_equations o (canonical s t) (canonical u v) ≢ gt
    turned_below {s} {t} {u} {v} h =
        let (g, b, e) = C.attained u v in
        let sides : canonical u v ≡ orient o (rename (λ n. g (h.new n)) s) (rename (λ n. g (h.new n)) t) =
        e ∙ ap₂ (orient o) (ap (rename g) (sym h.left) ∙ R.joins h.new g s) (ap (rename g) (sym h.right) ∙ R.joins h.new g t) in
        rw sides (C.least s t (λ n. g (h.new n)) (naming_after L h.renaming (turned_image h) b))

    turned_canonical : {s t u v : A} → Ok s → Ok t → Turns s t u v → canonical s t ≡ canonical u v
    turned_canonical ok ok' h = neither_above P (turned_below h) (turned_below (turned_back ok ok' h))

    swapped_below : (s t : A) → order_equations o (canonical s t) (canonical t s) ≢ gt
    swapped_below s t =
        let (f, b, e) = C.attained t s in
        rw (e ∙ orient_swap O (rename f t) (rename f s)) (C.least s t f (naming_after L unchanged (exchanged (has s) (has t)) b))

    swapped_canonical : (s t : A) → canonical s t ≡ canonical t s
    swapped_canonical s t = neither_above P (swapped_below s t) (swapped_below t s)

    -- each canonical equation is turned from its own
    pub canonical_turned : (s t : A) → Turns s t (canonical s t).left (canonical s t).right ⊎ Turns s t (canonical s t).right (canonical s t).left
    canonical_turned s t =
        let (f, b, e) = C.attained s t in
        let r = naming_renaming L b in
        rw e
        (⊎_elim (λ (p, q). inl (record { new = f; renaming = r; left = sym p; right = sym q }))
        (λ (p, q). inr (record { new = f; renaming = r; left = sym q; right = sym p }))
        (orient_sides o (rename f s) (rename f t)))

    -- its letters are small numbers, and letters that stay
    pub canonical_letters : (s t : A) (n : ℕ) → n ∈ has (canonical s t).left ++ has (canonical s t).right
        → (n < length (names (has s ++ has t))) ⊎ ((n ∈ has s ++ has t) × (T (free n) → ⊥))
    canonical_letters s t n i =
        let (f, b, e) = C.attained s t in
        let (m, j, p) = (both_letters f s t n).0 (sides (rename f s) (rename f t) (orient_sides o (rename f s) (rename f t)) (rw e at i)) in
        ⊎_elim (λ h. inl (rw p at h)) (λ (stays, q). let d = sym q ∙ p in inr (rw d at j, rw d at stays)) (naming_gives L b m j)
      where
        sides : (a b : A) {c : Equation A} → Same_sides c a b → n ∈ has c.left ++ has c.right → n ∈ has a ++ has b
        sides a b (inl (p, q)) k = rw (p, q) at k
        sides a b {c} (inr (p, q)) k = swap_in (has b) (has a) (rw (p, q) at k)

    pub canonical_as_many : (s t : A) → length (names (has s ++ has t)) ≡ length (names (has (canonical s t).left ++ has (canonical s t).right))
    canonical_as_many s t =
        let e = canonical s t in
        ⊎_elim (λ (h : Turns s t e.left e.right). as_many L h.renaming (turned_image h))
        (λ (h : Turns s t e.right e.left). let k = turned_swap h in swapped (has s) (has t) ∙ as_many L k.renaming (turned_image k))
        (canonical_turned s t)
      where
        swapped : (xs ys : List ℕ) → length (names (xs ++ ys)) ≡ length (names (ys ++ xs))
        swapped xs ys = as_many L unchanged (exchanged xs ys)

    -- its sides differ where those of the equation do
    pub canonical_apart : {s t : A} → Ok s → Ok t → (s ≢ t) → (canonical s t).left ≢ (canonical s t).right
    canonical_apart {s} {t} os ot differ same =
        ⊎_elim
        (λ h. let k = turned_back os ot h in differ (sym k.left ∙ ap (rename k.new) same ∙ k.right))
        (λ h. let k = turned_back os ot h in differ (sym k.left ∙ ap (rename k.new) (sym same) ∙ k.right))
        (canonical_turned s t)

    -- the same canonical equation exactly when a renaming turns one into the other, with or without exchanging sides
    pub alike_exactly : {s t u v : A} → Ok s → Ok t → Ok u → Ok v → canonical s t ≡ canonical u v ↔ (Turns s t u v ⊎ Turns s t v u)
    alike_exactly {s} {t} {u} {v} os ot ou ov = (only, all)
      where
        only : canonical s t ≡ canonical u v → Turns s t u v ⊎ Turns s t v u
        only e =
            let (f, b, d) = C.attained s t in
            let (g, c, d') = C.attained u v in
            let one : Turns s t (rename f s) (rename f t) = turned_by (naming_renaming L b) in
            let two : Turns u v (rename g u) (rename g v) = turned_by (naming_renaming L c) in
            let first : Same_sides (canonical s t) (rename f s) (rename f t) = rw d (orient_sides o (rename f s) (rename f t)) in
            let second : Same_sides (canonical s t) (rename g u) (rename g v) = rw (e ∙ d') (orient_sides o (rename g u) (rename g v)) in
            ⊎_elim
            (λ (p, q). inl (turned_on (rw (p, q) at one) (turned_back ou ov two)))
            (λ (p, q). inr (turned_on (rw (p, q) at one) (turned_back ov ou (turned_swap two))))
            (same_sides first second)

        all : Turns s t u v ⊎ Turns s t v u → canonical s t ≡ canonical u v
        all = ⊎_elim (turned_canonical os ot) (λ h. turned_canonical os ot h ∙ swapped_canonical v u)

    -- the canonical equation of a canonical equation is itself
    pub canonical_again : {s t : A} → Ok s → Ok t → canonical (canonical s t).left (canonical s t).right ≡ canonical s t
    canonical_again {s} {t} os ot =
        let e = canonical s t in
        ⊎_elim (λ h. sym (turned_canonical os ot h)) (λ h. swapped_canonical e.left e.right ∙ sym (turned_canonical os ot h)) (canonical_turned s t)
