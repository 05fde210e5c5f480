-- The steps in turn at a place, law by law, forward before back, and the places in turn: the lines of a term in their order.
use Prim.Native.Nat.{ℕ, suc, ◌+◌, ◌-◌, ◌*◌, ◌/◌, ◌%◌, ◌≤◌, ◌<◌}
use native.Mathlib.Omega.{arith}
use native.Mathlib.Numerals.{add-one}
use mathlib.Core.Path.{◌≡◌, refl, sym, ap, ◌∙◌}
use mathlib.Core.Bool.{Bool, true}
use mathlib.Core.List.{List, [], ◌∷◌, ◌++◌, map}
use lib.ListN.{length, get_or}
use Rattle.std.specs.Prelude.{None}
use Rattle.terms.specs.Term.{Term, size}
use Rattle.terms.specs.Held.{IsRun}
use Rattle.terms.specs.Theory.Held.{size_of}
use Rattle.search.specs.Law.{semiring}
use Rattle.search.specs.Line.{Line, Limits, forward, back, at_root, root_lines, lines, allowed, results}
use Rattle.search.specs.Place.{subterm_at, placed, lines_at, gather}
use Rattle.search.specs.Coded.{law_at, law_of, direction_of, numbered_law, numbered_direction}
use Rattle.search.specs.Bound.{BackAsForward, Repeats, BindsLaw}
use Rattle.search.specs.Spliced.{Tries, Outgrows}
use Rattle.search.specs.Ordered.{none, unknown, joined}
use Rattle.search.specs.Resulted.{tried_by, most_nodes, Adds, Resulted}
use Rattle.search.specs.Theory.Positions.{gather_snoc, gather_map, lines_in_order}
use Rattle.search.specs.declared.search.Law.{Law}
use Rattle.search.specs.declared.search.Direction.{Direction}
use Rattle.search.specs.declared.search.Direction.TheVariants.{Forward, Back}
use Rattle.search.specs.declared.search.Binding.{Binding}
use Rattle.search.specs.declared.search.Binding.TheVariants.{Unbound}
use Rattle.search.specs.declared.slots.Step.{Step}
use Rattle.search.proofs.Unknown.{unknown_joined}
use Rattle.search.proofs.Trying.{tries_nothing}
use Rattle.search.proofs.Firsts.{tries_outgrown}
use Rattle.search.proofs.Resulting.{allowed_append, joined_append, adds_none, adds_then, adds_same, adds_as, adds_nothing}
use Rattle.search.proofs.Repeating.{Again, back_again, back_lost}

-- lines in turn: those of f at 0, at 1, .. below n
abbrev pub in_turn : (ℕ → Term → List Line) → ℕ → Term → List Line
in_turn f n t = gather (λ i. f i t) n

pub turns_last : (f : ℕ → Term → List Line) (n : ℕ) (t : Term) → in_turn f (n + 1) t ≡ in_turn f n t ++ f n t
turns_last f n t = rw add-one (gather_snoc (λ i. f i t) n)

module _ {ws : List ℕ} {noted : ℕ} {xs : List ℕ} {room deep parent : ℕ} (f : ℕ → Term → List Line) {res order : List ℕ} {count : ℕ} where
  pub turns_none : Adds ws noted xs room deep parent (in_turn f 0) 0 res order count res order count
  unfolding gather
  turns_none = adds_none res order count

  pub turns_more : (n : ℕ) {most more : ℕ} (most' : ℕ) {res₁ order₁ : List ℕ} {r₁ : ℕ} → Adds ws noted xs room deep parent (in_turn f n) most res order count res₁ order₁ r₁
      → {room₁ : ℕ} → room₁ ≡ room → {res₂ order₂ : List ℕ} {r₂ : ℕ} → Adds ws noted xs room₁ deep parent (f n) more res₁ order₁ r₁ res₂ order₂ r₂ → most + more ≤ most'
      → Adds ws noted xs room deep parent (in_turn f (n + 1)) most' res order count res₂ order₂ r₂
  turns_more n most' A q B h = adds_as (in_turn f (n + 1)) most' (turns_last f n) h (adds_then A (rw q at B))

-- the twenty steps at a place: each law forward, then back
abbrev pub step_of : ℕ → ℕ → ℕ → Step
step_of place parent n = record { law = numbered_law (n / 2); direction = numbered_direction (n % 2); place = place; parent = parent }

abbrev pub step_lines : ℕ → ℕ → ℕ → Term → List Line
step_lines place parent n = tried_by (step_of place parent n)

-- the law and the direction of a step, by their places
pub law_in_turn : (i j : ℕ) → j < 2 → numbered_law i ≡ numbered_law ((2 * i + j) / 2)
law_in_turn i j h = let e : i ≡ (2 * i + j) / 2 = omega arith in ap numbered_law e

pub direction_in_turn : (i j : ℕ) → j < 2 → get_or (Forward ∷ Back ∷ []) j Forward ≡ numbered_direction ((2 * i + j) % 2)
direction_in_turn i j h = let e : j ≡ (2 * i + j) % 2 = omega arith in go j h ∙ ap numbered_direction e
  where
    go : (j : ℕ) → j < 2 → get_or (Forward ∷ Back ∷ []) j Forward ≡ numbered_direction j
    go ℕ.zero h = refl
    go (suc ℕ.zero) h = refl
    go (suc (suc j)) h = absurd (omega arith)

pub twenty_steps : (place parent : ℕ) (t : Term) → lines_at semiring t place ≡ in_turn (step_lines place parent) 20 t
unfolding lines_at root_lines gather semiring law_at
twenty_steps place parent t =
    let u = subterm_at t place in
    gather_map (placed t place) (λ n. at_root u (law_of (numbered_law (n / 2))) (direction_of (numbered_direction (n % 2)))) 20

pub back_odd : (n : ℕ) → numbered_direction n ≡ Back → 1 ≤ n
back_odd ℕ.zero e = absurd (let z : ◌≡◌ {A = ℕ} 0 1 = cc in omega arith)
back_odd (suc n) e = omega arith

-- the second of a law's two steps, where it makes back what it makes forward: what holds of the lines with those of the step before and without
pub by_again : (place parent n k : ℕ) → n ≡ k + 1 → k % 2 ≡ 0 → BackAsForward (law_of (numbered_law (n / 2))) → (t : Term) (m : Limits)
    → (P : List Line → List Line → Type 0) → ((xs fs bs : List Line) → Again fs bs → P ((xs ++ fs) ++ bs) (xs ++ fs))
    → P (allowed m (in_turn (step_lines place parent) (n + 1) t)) (allowed m (in_turn (step_lines place parent) n t))
by_again place parent n k e z f t m P g =
    let steps = step_lines place parent in
    let u = subterm_at t place in
    let w = law_of (numbered_law (n / 2)) in
    let h : k / 2 ≡ n / 2 = omega arith in
    let o : n % 2 ≡ 1 = omega arith in
    let first : steps k t ≡ map (placed t place) (at_root u w forward) = rw (h, z) in
    let second : steps n t ≡ map (placed t place) (at_root u w back) = rw o in
    let before : allowed m (in_turn steps n t) ≡ allowed m (in_turn steps k t) ++ allowed m (steps k t) = rw (e, turns_last steps k t) (allowed_append m (in_turn steps k t) (steps k t)) in
    rw (turns_last steps n t, allowed_append m (in_turn steps n t) (steps n t), before, first, second)
    (g (allowed m (in_turn steps k t)) (allowed m (map (placed t place) (at_root u w forward))) (allowed m (map (placed t place) (at_root u w back))) (back_again m t place w f))

module _ {ws : List ℕ} {noted : ℕ} {xs : List ℕ} {room deep parent : ℕ} (place n : ℕ) {res order : List ℕ} {count : ℕ} {res₁ order₁ : List ℕ} {r₁ : ℕ}
    (A : Adds ws noted xs room deep parent (in_turn (step_lines place parent) n) n res order count res₁ order₁ r₁) where
  module _ (w : Law) (d : Direction) (p : w ≡ numbered_law (n / 2)) (q : d ≡ numbered_direction (n % 2)) where
    abbrev step : Step
    step = record { law = w; direction = d; place = place; parent = parent }

    pub step_kept : {room₁ : ℕ} → room₁ ≡ room → {res₂ order₂ : List ℕ} {r₂ : ℕ} → Adds ws noted xs room₁ deep parent (tried_by step) 1 res₁ order₁ r₁ res₂ order₂ r₂
        → Adds ws noted xs room deep parent (in_turn (step_lines place parent) (n + 1)) (n + 1) res order count res₂ order₂ r₂
    step_kept e B = turns_more (step_lines place parent) n (n + 1) A e (rw (p, q) at B) (omega arith)

    -- a law with no line is passed over
    passed : place < length xs → Tries w d xs place room [] None → Adds ws noted xs room deep parent (in_turn (step_lines place parent) (n + 1)) (n + 1) res order count res₁ order₁ r₁
    passed i T = step_kept refl (adds_nothing ws noted step xs room deep [] res₁ order₁ r₁ None i T refl)

    -- one with a letter left unbound, or that does not match
    pub step_passed : place < length xs → (b : Binding) → BindsLaw w d xs place b → b ≡ Unbound
        → Adds ws noted xs room deep parent (in_turn (step_lines place parent) (n + 1)) (n + 1) res order count res₁ order₁ r₁
    step_passed i b B e = passed i (tries_nothing w d xs place b room [] B e)

    -- one whose result has no room
    pub step_outgrown : place < length xs → (room₁ : ℕ) → room₁ ≡ room → (b : Bool) → Outgrows w d (length xs) room₁ b → b ≡ true
        → Adds ws noted xs room deep parent (in_turn (step_lines place parent) (n + 1)) (n + 1) res order count res₁ order₁ r₁
    step_outgrown i room₁ f b O e = passed i (tries_outgrown w d xs place room [] b (rw f at O) e)

    -- one that makes what it makes forward, in the step before
    pub step_repeated : (b : Bool) → Repeats w d b → b ≡ true
        → Adds ws noted xs room deep parent (in_turn (step_lines place parent) (n + 1)) (n + 1) res order count res₁ order₁ r₁
    step_repeated b R e =
        let (k, f) = R.exact e in
        let o = back_odd (n % 2) (sym q ∙ k) in
        adds_same (in_turn (step_lines place parent) (n + 1)) (n + 1)
        (λ ns t m ys.
        by_again place parent n (n - 1) (omega arith) (omega arith) (rw p at f) t m (λ us vs. joined ns ys us ≡ joined ns ys vs)
        (λ us fs bs a. joined_append ns ys (us ++ fs) bs ∙ rw (joined_append ns ys us fs) (back_lost ns (joined ns ys us) a)))
        (omega arith)
        A

  pub steps_all : 20 ≤ n → n ≤ 20 → Adds ws noted xs room deep parent (λ t. lines_at semiring t place) 20 res order count res₁ order₁ r₁
  steps_all h k =
      let e : n ≡ 20 = omega arith in
      adds_as (λ t. lines_at semiring t place) 20 (λ t. rw e (twenty_steps place parent t)) (omega arith) A

-- the places in turn

abbrev pub place_lines : ℕ → Term → List Line
place_lines i t = lines_at semiring t i

module _ {ws : List ℕ} {noted : ℕ} {xs : List ℕ} {room deep parent : ℕ} {res order : List ℕ} (i : ℕ) {res₁ order₁ : List ℕ} {r₁ : ℕ}
    (A : Adds ws noted xs room deep parent (in_turn place_lines i) (20 * i) res order 0 res₁ order₁ r₁) where
  pub places_all : (n : ℕ) → length xs ≤ most_nodes n → i ≤ length xs → length xs ≤ i → Resulted ws noted xs parent room deep n res₁ order₁ r₁
  unfolding results unknown
  places_all n short low high =
      record {
        few = omega (arith, A.high);
        exact = λ ns t m S c h k q e d.
            let f : i ≡ size t = omega (arith, size_of h) in
            rw (unknown_joined ns [] (allowed m (lines semiring t)) tt, lines_in_order semiring t, ← f)
            (A.exact ns t m [] S c h e d (record { named = none; rising = tt }));
      }

-- no more is asked where a run or a limit is too large
pub resulted_never : {ws : List ℕ} {noted : ℕ} {xs : List ℕ} {parent room deep n : ℕ} (res order : List ℕ) → ((t : Term) → IsRun xs t → size t ≤ most_nodes n → room ≤ 31 → ⊥) → Resulted ws noted xs parent room deep n res order 0
resulted_never res order f = record { few = omega arith; exact = λ ns t m S c h k q e d. absurd (f t h k q) }
