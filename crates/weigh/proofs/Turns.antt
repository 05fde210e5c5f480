-- The lines of an opened term in their order: the steps in turn at a place, law by law, forward before back, and the places in turn.
use Rattle.std.specs.Prelude.{ℕ, ◌+◌, ◌-◌, ◌*◌, ◌/◌, ◌%◌, ◌≤◌, ◌<◌, ◌≡◌, Bool, true, List, [], length, Option, Some, None}
use Rattle.std.proofs.Common.{arith, refl, sym, ◌∙◌, ap}
use Rattle.terms.specs.Term.{Term, size}
use Rattle.terms.specs.Theory.Held.{size_of}
use Rattle.search.specs.Law.{semiring}
use Rattle.search.specs.Line.{Line, lines}
use Rattle.search.specs.Place.{lines_at, gather}
use Rattle.search.specs.Coded.{name_of, numbered_law, numbered_direction}
use Rattle.search.specs.Bound.{Repeats, BindsLaw}
use Rattle.search.specs.Spliced.{Tries, Outgrows}
use Rattle.search.specs.Searched.{limits_of}
use Rattle.search.specs.Resulted.{tried_by}
use Rattle.search.specs.Runs.{Shows}
use Rattle.search.specs.Theory.Positions.{gather_add, lines_in_order}
use Rattle.search.specs.declared.search.Law.{Law}
use Rattle.search.specs.declared.search.Direction.{Direction}
use Rattle.search.specs.declared.search.Binding.{Binding}
use Rattle.search.specs.declared.search.Binding.TheVariants.{Unbound}
use Rattle.search.specs.declared.bounded_search.Limits.{Limits}
use Rattle.search.specs.declared.slots.Step.{Step}
use Rattle.search.proofs.Trying.{tries_nothing}
use Rattle.search.proofs.Firsts.{tries_outgrown}
use Rattle.search.proofs.InTurn.{in_turn, turns_last, step_lines, twenty_steps, back_odd, law_in_turn, by_again, place_lines}
use Rattle.weigh.specs.Weigh.{weights_of, note_lines}
use Rattle.weigh.specs.Opened.{TakesLines, Opens}
use Rattle.weigh.proofs.Naming.{weighed_run}
use Rattle.weigh.proofs.Lines.{note_repeated, takes_none, takes_then, takes_same, takes_as, takes_full, takes_heavy, takes_nothing}

module _ {weights : List ℕ} {cost : ℕ} {ws : List ℕ} {count slots : ℕ} {xs : List ℕ} {room deep from total : ℕ} (f : ℕ → Term → List Line) where
  pub turns_none : count ≤ slots → TakesLines weights cost ws count slots xs room deep from total (in_turn f 0) (Some count) ws
  unfolding gather
  turns_none h = takes_none h

  pub turns_more : (n : ℕ) {c : ℕ} {ws₁ : List ℕ} → TakesLines weights cost ws count slots xs room deep from total (in_turn f n) (Some c) ws₁
      → {room₁ : ℕ} → room₁ ≡ room → {r : Option ℕ} {ws₂ : List ℕ} → TakesLines weights cost ws₁ c slots xs room₁ deep from total (f n) r ws₂
      → TakesLines weights cost ws count slots xs room deep from total (in_turn f (n + 1)) r ws₂
  turns_more n A e B = takes_as (in_turn f (n + 1)) (λ t h. turns_last f n t) (takes_then A (rw e at B))

  -- where the slots do not do for some turns they do not do for more
  pub turns_full : (n k : ℕ) → n ≤ k → {ws₁ : List ℕ} → TakesLines weights cost ws count slots xs room deep from total (in_turn f n) None ws₁
      → TakesLines weights cost ws count slots xs room deep from total (in_turn f k) None ws₁
  turns_full n k h A =
      let e : k ≡ n + (k - n) = omega arith in
      takes_as (in_turn f k) (λ t i. ap (gather (λ j. f j t)) e ∙ gather_add (λ j. f j t) n (k - n)) (takes_full (λ t. gather (λ j. f (n + j) t) (k - n)) A)

module _ {weights : List ℕ} {cost : ℕ} {ws : List ℕ} {count slots : ℕ} {xs : List ℕ} {room deep from total : ℕ} (place n : ℕ) where
  module _ {c : ℕ} {ws₁ : List ℕ} (A : TakesLines weights cost ws count slots xs room deep from total (in_turn (step_lines place from) n) (Some c) ws₁)
      (w : Law) (d : Direction) (p : w ≡ numbered_law (n / 2)) (q : d ≡ numbered_direction (n % 2)) where
    abbrev step : Step
    step = record { law = w; direction = d; place = place; parent = from }

    pub step_taken : {room₁ : ℕ} → room₁ ≡ room → {r : Option ℕ} {ws₂ : List ℕ} → TakesLines weights cost ws₁ c slots xs room₁ deep from total (tried_by step) r ws₂
        → TakesLines weights cost ws count slots xs room deep from total (in_turn (step_lines place from) (n + 1)) r ws₂
    step_taken e B = turns_more (step_lines place from) n A e (rw (p, q) at B)

    -- a law with no line is passed over
    passed : place < length xs → Tries w d xs place room [] None
        → TakesLines weights cost ws count slots xs room deep from total (in_turn (step_lines place from) (n + 1)) (Some c) ws₁
    passed i T = step_taken refl (takes_nothing weights cost ws₁ c slots step xs room deep total [] None i T A.fits refl)

    -- one with a letter left unbound, or that does not match
    pub step_passed : place < length xs → (b : Binding) → BindsLaw w d xs place b → b ≡ Unbound
        → TakesLines weights cost ws count slots xs room deep from total (in_turn (step_lines place from) (n + 1)) (Some c) ws₁
    step_passed i b B e = passed i (tries_nothing w d xs place b room [] B e)

    -- one whose result has no room
    pub step_outgrown : place < length xs → (room₁ : ℕ) → room₁ ≡ room → (b : Bool) → Outgrows w d (length xs) room₁ b → b ≡ true
        → TakesLines weights cost ws count slots xs room deep from total (in_turn (step_lines place from) (n + 1)) (Some c) ws₁
    step_outgrown i room₁ f b O e = passed i (tries_outgrown w d xs place room [] b (rw f at O) e)

    -- one that is over cost
    pub step_heavy : place < length xs → cost < total + weights_of weights (name_of w)
        → TakesLines weights cost ws count slots xs room deep from total (in_turn (step_lines place from) (n + 1)) (Some c) ws₁
    step_heavy i h = step_taken refl (takes_heavy step i A.fits h)

    -- one that makes what it makes forward, in the step before
    pub step_repeated : (b : Bool) → Repeats w d b → b ≡ true
        → TakesLines weights cost ws count slots xs room deep from total (in_turn (step_lines place from) (n + 1)) (Some c) ws₁
    step_repeated b R e =
        let (k, f) = R.exact e in
        let o = back_odd (n % 2) (sym q ∙ k) in
        takes_same (in_turn (step_lines place from) (n + 1))
        (λ es x m j i t.
        let v = weights_of weights in
        by_again place from n (n - 1) (omega arith) (omega arith) (rw p at f) x.term m (λ us vs. note_lines v cost x us es ≡ note_lines v cost x vs es)
        (λ us fs bs a. note_repeated v cost x us fs bs es j a))
        A

  pub steps_all : n ≡ 20 → {r : Option ℕ} {ws₁ : List ℕ} → TakesLines weights cost ws count slots xs room deep from total (in_turn (step_lines place from) n) r ws₁
      → TakesLines weights cost ws count slots xs room deep from total (λ t. lines_at semiring t place) r ws₁
  steps_all e A = takes_as (λ t. lines_at semiring t place) (λ t h. rw e (twenty_steps place from t)) A

-- a law over cost is passed over forward and back
pub law_heavy : {weights : List ℕ} {cost : ℕ} {ws : List ℕ} {count slots : ℕ} {xs : List ℕ} {room deep from total : ℕ} (place i : ℕ) {c : ℕ} {ws₁ : List ℕ}
    → TakesLines weights cost ws count slots xs room deep from total (in_turn (step_lines place from) (2 * i)) (Some c) ws₁ → (w : Law) → w ≡ numbered_law i
    → place < length xs → cost < total + weights_of weights (name_of w)
    → TakesLines weights cost ws count slots xs room deep from total (in_turn (step_lines place from) (2 * (i + 1))) (Some c) ws₁
law_heavy place i A w e h k =
    let f : 2 * (i + 1) ≡ 2 * i + 1 + 1 = omega arith in
    let g : i ≡ 2 * i / 2 = omega arith in
    let B = step_heavy place (2 * i) A w _ (e ∙ ap numbered_law g) refl h k in
    rw f (step_heavy place (2 * i + 1) B w _ (e ∙ law_in_turn i 1 (omega arith)) refl h k)

-- all places

module _ {weights : List ℕ} {cost : ℕ} {ws : List ℕ} {count slots : ℕ} {xs : List ℕ} {from total : ℕ} (m : Limits) where
  -- the run is that of the term in the slot
  pub opens_all : (n : ℕ) → n ≡ length xs → (ys : List ℕ) → Shows ws from ys → xs ≡ ys → {r : Option ℕ} {ws₁ : List ℕ}
      → TakesLines weights cost ws count slots xs m.size m.depth from total (in_turn place_lines n) r ws₁ → Opens weights cost m ws count slots from total r ws₁
  opens_all n e ys S q A =
      let B = takes_as (lines semiring) (λ t h. let f : size t ≡ n = omega (arith, size_of h) in rw f at (lines_in_order semiring t)) A in
      record {
        fits = B.fits;
        size = B.size;
        exact = λ es x W c O t h. B.exact es x (limits_of m) W c O (rw q (S.exact x.term (rw O.is at (weighed_run W from O.within)))) t refl refl;
      }

  -- a run of so many numbers is no term's
  pub opens_none : count ≤ slots → Shows ws from xs → 31 < length xs → Opens weights cost m ws count slots from total (Some count) ws
  opens_none h S k =
      record {
        fits = h;
        size = refl;
        exact = λ es x W c O t j.
            let T = rw O.is at (weighed_run W from O.within) in absurd (omega (arith, T.small, size_of (S.exact x.term T)));
      }
