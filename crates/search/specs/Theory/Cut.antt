-- When a search is cut: what that says of the terms reached, and that it is enough to look at the next noted term.
use Rattle.std.specs.Prelude.{ℕ, suc, ◌≤◌, ◌<◌, min, ◌≡◌, refl, ◌⊎◌, Bool, true, false, length, drop, ltb}
use Rattle.std.proofs.Common.{arith, sym, inl, inr, ⊎_elim, le-leb, drop_of_length-le, length-append, drop-cons}
use mathlib.Core.List.{List, [], ◌∷◌, ◌++◌, map-append, append_assoc}
use Rattle.std.proofs.lemmas.Bool.{lt-leb}
use Rattle.std.proofs.lemmas.List.{length-map}
use Rattle.std.proofs.Math.Seq.{drop-append_seam}
use Rattle.terms.specs.Lists.{◌∈◌, here, there, not-in-nil, cons-cases, append_cases, only_one, in_left, in-cast, in_map, of_map, Distinct}
use Rattle.terms.specs.Term.{Term, zero}
use Rattle.terms.specs.Theory.Order.{below?}
use Rattle.terms.specs.Theory.Reflects.{Reflects, leb_reflects, tests_agree}
use Rattle.terms.specs.Theory.Distinct.{distinct_prefix, distinct_length}
use Rattle.search.specs.Law.{Law}
use Rattle.search.specs.Line.{Line, Limits}
use Rattle.search.specs.Path.{Searchable, Path}
use Rattle.search.specs.Search.{Noted}
use Rattle.search.specs.Explore.{Explored, explored}
use Rattle.search.specs.Serve.{over, serve}
use Rattle.search.specs.Cut.{any_near, left_unopened, cut}
use Rattle.search.specs.Claims.{Reachable}
use Rattle.search.specs.Runs.{value_of}
use Rattle.search.specs.Slots.{Slots}
use Rattle.search.specs.Theory.Grows.{terms, Knows}
use Rattle.search.specs.Theory.Frontier.{distance, Near, Waits, Queue, nearest, State, leaves}
use Rattle.search.specs.Theory.Tries.{tries}
use Rattle.search.specs.Theory.Explore.{Ends, explore_ends}
use Rattle.search.specs.Theory.Serve.{serve_over}

any_near_cases : (P : Bool → Type 0) (steps : ℕ) (x : Noted) (xs : List Noted) → (distance x < steps → P true)
    → ((distance x < steps → ⊥) → P (any_near steps xs)) → P (any_near steps (x ∷ xs))
unfolding any_near
any_near_cases P steps x xs near far = go (ltb (distance x) steps) (leb_reflects (suc (distance x)) steps)
  where
    go : (b : Bool) → Reflects (distance x < steps) b → P (elim b [ true ↦ true | false ↦ any_near steps xs ])
    go true h = near h
    go false h = far h

pub any_near_reflects : (steps : ℕ) (xs : List Noted) → Reflects (Waits xs steps) (any_near steps xs)
unfolding any_near
any_near_reflects steps [] = λ (z, m, h). not-in-nil m
any_near_reflects steps (x ∷ xs) =
    any_near_cases (Reflects (Waits (x ∷ xs) steps)) steps x xs (λ h. (x, here refl, h)) (λ h. later h (any_near steps xs) (any_near_reflects steps xs))
  where
    later : (distance x < steps → ⊥) → (b : Bool) → Reflects (Waits xs steps) b → Reflects (Waits (x ∷ xs) steps) b
    later h true (z, m, k) = (z, there m, k)
    later h false nowhere = λ (z, m, k). ⊎_elim (λ p. h (rw p at k)) (λ n. nowhere (z, n, k)) (cons-cases m)

-- ---- the next noted term

-- the test of the first that waits
unfoldable pub first_near : ℕ → List Noted → Bool
first_near steps [] = false
first_near steps (x ∷ xs) = ltb (distance x) steps

-- it is the nearest
queue_near : (steps : ℕ) (xs : List Noted) → Queue xs → any_near steps xs ≡ first_near steps xs
unfolding any_near first_near
queue_near steps [] q = refl
queue_near steps (x ∷ xs) q =
    tests_agree (any_near steps (x ∷ xs)) (ltb (distance x) steps) (any_near_reflects steps (x ∷ xs)) (leb_reflects (suc (distance x)) steps)
    (λ (z, m, h). let k = nearest q z m in omega arith) (λ h. (x, here refl, h))

-- as the slots have it
module _ (steps : ℕ) (ns : List Noted) (i : ℕ) where
  pub first_near_end : length ns ≤ i → first_near steps (drop i ns) ≡ false
  unfolding first_near
  first_near_end h = rw (drop_of_length-le ns h)

  pub first_near_slot : (ws : List ℕ) → Slots ws ns → i < length ns → first_near steps (drop i ns) ≡ ltb (value_of ws i) steps
  unfolding first_near
  first_near_slot ws S h = rw (drop-cons ns i (record { term = zero; trail = [] }) h, S.distance i h)

-- ---- a search without a right side, for any lines

-- a term that is nearer than all that wait is opened
nearer : (done : List Noted) {waiting : List Noted} (steps : ℕ) → ((z : Noted) → z ∈ waiting → steps ≤ distance z) → (t : Term) {k : ℕ} → k < steps
    → Near (done ++ waiting) t k ⊎ Waits waiting k → t ∈ terms done
nearer done steps far t h (inl (z, m, e, d)) =
    ⊎_elim (λ n. in-cast (sym e) (in_map (λ x. x.term) n)) (λ n. absurd (omega (arith, far z n))) (append_cases done m)
nearer done steps far t h (inr (z, m, d)) = absurd (omega (arith, far z m))

module _ {Ok : Term → Line → Type 0} {left : Term} (steps : ℕ) (done waiting : List Noted) (state : State Ok left done waiting) (ts : List Term)
    (all : (t : Term) (ys : List Line) → Path Ok left ys t → length ys < steps → t ∈ ts) where
  -- the first terms noted are no more than fewer than `steps` lines reach, if they are near enough
  near_few : (near others : List Noted) → done ++ waiting ≡ near ++ others → ((x : Noted) → x ∈ near → distance x < steps) → length near ≤ length ts
  near_few near others parts below =
      let d = distinct_prefix (terms near) (terms others) (rw (parts, map-append (λ y. y.term) near others) at state.distinct) in
      omega (
        arith,
        length-map near (λ y. y.term),
        distinct_length d ts
            (λ t i.
            let (y, n, e) = of_map (λ y. y.term) near i in
            in-cast (sym e) (all y.term y.trail (state.trail y (rw parts (in_left others n))) (below y n))),
      )

-- where one that waits is near enough, they are fewer
near_more : {Ok : Term → Line → Type 0} {left : Term} (steps : ℕ) (done waiting : List Noted) → State Ok left done waiting → (ts : List Term)
    → ((t : Term) (ys : List Line) → Path Ok left ys t → length ys < steps → t ∈ ts) → ((x : Noted) → x ∈ done → distance x < steps)
    → Waits waiting steps → length done < length ts
near_more steps done [] state ts all below (z, m, h) = absurd (not-in-nil m)
near_more steps done (x ∷ rest) state ts all below (z, m, h) =
    let k = nearest state.queue z m in
    let near : distance x < steps = omega arith in
    omega (
      arith,
      length-append done (x ∷ []),
      near_few steps done (x ∷ rest) state ts all (done ++ (x ∷ [])) rest (sym (append_assoc done (x ∷ []) rest))
          (λ y m. ⊎_elim (below y) (λ n. let p : y ≡ x = only_one n in rw p near) (append_cases done m)),
    )

module _ {Ok : Term → Line → Type 0} {steps nodes : ℕ} {left : Term} {e : Explored} (ends : Ends Ok steps nodes left e) where
  waiting_is : drop e.opened e.noted ≡ ends.waiting
  waiting_is = rw (ends.count, ends.parts) (drop-append_seam ends.done ends.waiting)

  near_waits : Reflects (Waits ends.waiting steps) (left_unopened steps e)
  unfolding left_unopened
  near_waits = rw waiting_is (any_near_reflects steps ends.waiting)

  -- where one is left unopened, as many are opened as may be
  left_unopened_full : left_unopened steps e ≡ true → e.opened ≡ nodes
  left_unopened_full c = go (rw c at near_waits)
    where
      go : Waits ends.waiting steps → e.opened ≡ nodes
      go (z, m, h) = ⊎_elim (λ k. k) (λ far. absurd (omega (arith, far z m))) ends.why

  left_unopened_first : left_unopened steps e ≡ first_near steps (drop e.opened e.noted)
  unfolding left_unopened
  left_unopened_first = rw waiting_is (queue_near steps ends.waiting ends.state.queue)

  module _ {t : Term} {ys : List Line} (path : Path Ok left ys t) where
    leads : Near (ends.done ++ ends.waiting) t (length ys) ⊎ Waits ends.waiting (length ys)
    leads = leaves ends.state 0 (length ys) path (omega arith) ends.state.start

    module _ (c : left_unopened steps e ≡ false) where
      far : (z : Noted) → z ∈ ends.waiting → steps ≤ distance z
      far z m = ⊎_elim (λ k. absurd ((rw c at near_waits) (z, m, k))) (λ k. k) (below? (distance z) steps)

      -- none is left: a path leads to a noted term, and a shorter one to an opened term
      uncut_known : length ys ≤ steps → Knows e.noted t
      uncut_known short = ⊎_elim (λ (z, m, q, d). (z, rw ends.parts m, q)) (λ (z, m, d). absurd (omega (arith, far z m))) leads

      uncut_opened : length ys < steps → t ∈ terms ends.done
      uncut_opened short = nearer ends.done steps far t short leads

  -- of the terms that fewer than `steps` lines reach, one is left unopened exactly where they are more than may be opened; as many are
  -- opened as may be, or all of them
  module _ (ts : List Term) (distinct : Distinct ts) (all : (t : Term) (ys : List Line) → Path Ok left ys t → length ys < steps → t ∈ ts)
      (only : (t : Term) → t ∈ ts → (ys : List Line) × Path Ok left ys t × (length ys < steps)) where
    pub unopened_counts : (left_unopened steps e ≡ ltb nodes (length ts)) × (e.opened ≡ min nodes (length ts))
    unopened_counts = go (left_unopened steps e) refl near_waits
      where
        go : (b : Bool) → left_unopened steps e ≡ b → Reflects (Waits ends.waiting steps) b → (b ≡ ltb nodes (length ts)) × (e.opened ≡ min nodes (length ts))
        go true c waits =
            let more = near_more steps ends.done ends.waiting ends.state ts all ends.below waits in
            let full = left_unopened_full c in
            (sym (le-leb (suc nodes) (length ts) (omega (arith, ends.count))), omega (arith, ends.count))
        go false c none-waits =
            let few = near_few steps ends.done ends.waiting ends.state ts all ends.done ends.waiting refl ends.below in
            let only-opened = distinct_length distinct (terms ends.done) (λ t i. let (ys, path, k) = only t i in uncut_opened path c k) in
            let same_count = length-map ends.done (λ y. y.term) in
            (sym (lt-leb (suc nodes) (length ts) (omega (arith, ends.count, ends.most))), omega (arith, ends.count, ends.most))

-- ---- the search of a job

module _ (ws : List Law) (m : Limits) (left : Term) where
  pub explored_ends : Ends (Searchable ws m) m.steps m.nodes left (explored ws m left)
  unfolding explored
  explored_ends = explore_ends (tries ws m) m.steps m.nodes left

  -- `cut` is yes exactly when a noted term at a distance below steps was left unopened
  pub cut_reflects : Reflects (Waits (drop (explored ws m left).opened (explored ws m left).noted) m.steps) (cut ws m left)
  unfolding cut left_unopened
  cut_reflects = any_near_reflects m.steps (drop (explored ws m left).opened (explored ws m left).noted)

  module _ (ts : List Term) (r : Reachable ws m left ts) where
    counts : (left_unopened m.steps (explored ws m left) ≡ ltb m.nodes (length ts)) × ((explored ws m left).opened ≡ min m.nodes (length ts))
    counts =
        unopened_counts explored_ends ts r.distinct (λ t ys path h. r.all t (length ys) h (ys, refl, path))
        (λ t i. let (k, h, (ys, long, path)) = r.only t i in (ys, path, omega arith))

    -- exactly when fewer terms may be opened than are reached by fewer searchable lines than the step limit
    pub cut_counts : cut ws m left ≡ ltb m.nodes (length ts)
    unfolding cut
    cut_counts = counts.0

    pub opened_counts : (explored ws m left).opened ≡ min m.nodes (length ts)
    opened_counts = counts.1

  pub cut_full : cut ws m left ≡ true → (explored ws m left).opened ≡ m.nodes
  unfolding cut
  cut_full = left_unopened_full explored_ends

  -- otherwise every path within the step limit leads to a noted term
  pub uncut_knows : cut ws m left ≡ false → {t : Term} {ys : List Line} → Path (Searchable ws m) left ys t → length ys ≤ m.steps
      → Knows (explored ws m left).noted t
  unfolding cut
  uncut_knows c path short = uncut_known explored_ends path c short

  -- after one search for many right sides that is over, it is enough to look at the next noted term
  pub served_cut : (slots : ℕ) (rights : List Term) → (serve ws m slots left rights).stop ≡ over
      → cut ws m left ≡ first_near m.steps (drop (serve ws m slots left rights).opened (serve ws m slots left rights).noted)
  unfolding cut
  served_cut slots rights e =
      let (same_noted, same-opened) = serve_over ws m slots left rights e in
      rw (← same_noted, ← same-opened) (left_unopened_first explored_ends)
