-- What the search without a right side notes and opens, for any lines that it tries.
use Prim.Native.Nat.{ℕ, suc, ◌+◌, ◌≤◌, ◌<◌}
use Rattle.std.proofs.Common.{arith, sym, subst₂, inl, inr, ⊎_elim, length-append}
use Rattle.std.specs.Prelude.{◌≡◌, ◌⊎◌, Bool, drop, ltb}
use Rattle.std.proofs.Math.Path.{refl}
use Rattle.std.proofs.Math.Bool.{true, false}
use mathlib.Core.List.{List, [], ◌∷◌, ◌++◌}
use Rattle.std.proofs.Math.ListN.{length}
use Rattle.std.proofs.Math.Seq.{drop-append_seam}
use Rattle.terms.specs.Lists.{◌∈◌, not-in-nil, append_cases, only_one, Distinct}
use Rattle.terms.specs.Term.{Term}
use Rattle.terms.specs.Theory.Reflects.{Reflects, leb_reflects}
use Rattle.search.specs.Line.{Line}
use Rattle.search.specs.Search.{Noted, is_noted, entry}
use Rattle.search.specs.Theory.Grows.{terms, Knows, is_noted_reflects, Grows, grows_none, grows_skip, grows_add}
use Rattle.search.specs.Theory.Frontier.{distance, nearest, Tries, State, starts, regrouped, opens}
use Rattle.search.specs.Explore.{start, grow, Explored, at_end, explore}
use Rattle.search.specs.Theory.Stands.{Begins, begins_self, begins_trans}

module _ (trail : List Line) where
  -- a line leads to a noted term or to a new one
  pub grow_cases : (P : List Noted → Type 0) (x : Line) (xs : List Line) (noted : List Noted) → (Knows noted x.result → P (grow trail xs noted))
      → ((Knows noted x.result → ⊥) → P (grow trail xs (noted ++ (entry trail x ∷ [])))) → P (grow trail (x ∷ xs) noted)
  unfolding grow
  grow_cases P x xs noted known fresh = go (is_noted x.result noted) (is_noted_reflects x.result noted)
    where
      go : (b : Bool) → Reflects (Knows noted x.result) b
          → P (elim b [ true ↦ grow trail xs noted | false ↦ grow trail xs (noted ++ (entry trail x ∷ [])) ])
      go true h = known h
      go false h = fresh h

  pub grow_grows : (xs : List Line) (noted : List Noted) → Grows trail xs noted (grow trail xs noted)
  unfolding grow
  grow_grows [] noted = grows_none trail noted
  grow_grows (x ∷ xs) noted =
      grow_cases (Grows trail (x ∷ xs) noted) x xs noted (λ h. grows_skip trail x xs noted h (grow_grows xs noted))
      (λ h. grows_add trail x xs noted h (grow_grows xs (noted ++ (entry trail x ∷ []))))

  pub grow_begins : (xs : List Line) (noted : List Noted) → Begins noted (grow trail xs noted)
  grow_begins xs noted = let g = grow_grows xs noted in record { more = g.new; parts = g.appended }

module _ (next : Term → List Line) (steps : ℕ) where
  -- nothing is left, or the next is too far away, or it is opened
  pub explore_cases : (P : Explored → Type 0) (f i : ℕ) (noted : List Noted) → (drop i noted ≡ [] → P (at_end i noted))
      → ((x : Noted) (rest : List Noted) → drop i noted ≡ x ∷ rest → steps ≤ distance x → P (at_end i noted))
      → ((x : Noted) (rest : List Noted) → drop i noted ≡ x ∷ rest → distance x < steps
      → P (explore next steps f (suc i) (grow x.trail (next x.term) noted)))
      → P (explore next steps (suc f) i noted)
  unfolding explore
  explore_cases P f i noted empty far near = go (drop i noted) refl
    where
      after : Noted → Explored
      after x = explore next steps f (suc i) (grow x.trail (next x.term) noted)

      by_distance : (x : Noted) (rest : List Noted) → drop i noted ≡ x ∷ rest → (b : Bool) → Reflects (distance x < steps) b
          → P (elim b [ false ↦ at_end i noted | true ↦ after x ])
      by_distance x rest e true h = near x rest e h
      by_distance x rest e false h = far x rest e (omega arith)

      go : (l : List Noted) → drop i noted ≡ l
          → P (elim l [ [] ↦ at_end i noted | x ∷ rest ↦ elim (ltb (distance x) steps) [ false ↦ at_end i noted | true ↦ after x ] ])
      go [] e = empty e
      go (x ∷ rest) e = by_distance x rest e (ltb (distance x) steps) (leb_reflects (suc (distance x)) steps)

  -- what is noted stays where it is
  pub explore_begins : (f i : ℕ) (noted : List Noted) → Begins noted (explore next steps f i noted).noted
  unfolding explore
  explore_begins ℕ.zero i noted = begins_self noted
  explore_begins (suc f) i noted =
      explore_cases (λ e. Begins noted e.noted) f i noted (λ _. begins_self noted) (λ _ _ _ _. begins_self noted)
      (λ x rest _ _. begins_trans (grow_begins x.trail (next x.term) noted) (explore_begins f (suc i) (grow x.trail (next x.term) noted)))

-- the first terms are opened, the others wait; as many are opened as may be, or none that waits is near enough
pub record Ends (Ok : Term → Line → Type 0) (steps nodes : ℕ) (left : Term) (e : Explored) : Type 0 where
  pub done : List Noted
  pub waiting : List Noted
  pub parts : e.noted ≡ done ++ waiting
  pub count : e.opened ≡ length done
  pub state : State Ok left done waiting
  pub below : (x : Noted) → x ∈ done → distance x < steps
  pub most : e.opened ≤ nodes
  pub why : (e.opened ≡ nodes) ⊎ ((z : Noted) → z ∈ waiting → steps ≤ distance z)

module _ {Ok : Term → Line → Type 0} {next : Term → List Line} (tries : Tries Ok next) (steps nodes : ℕ) (left : Term) where
  here_ends : (done waiting : List Noted) → State Ok left done waiting → ((x : Noted) → x ∈ done → distance x < steps) → length done ≤ nodes
      → (length done ≡ nodes) ⊎ ((z : Noted) → z ∈ waiting → steps ≤ distance z) → Ends Ok steps nodes left (at_end (length done) (done ++ waiting))
  here_ends done waiting state below most why =
      record { done = done; waiting = waiting; parts = refl; count = refl; state = state; below = below; most = most; why = why }

  module _ (done : List Noted) (x : Noted) (rest : List Noted) (state : State Ok left done (x ∷ rest)) where
    grows : Grows x.trail (next x.term) (done ++ (x ∷ rest)) (grow x.trail (next x.term) (done ++ (x ∷ rest)))
    grows = grow_grows x.trail (next x.term) (done ++ (x ∷ rest))

    ends_cases : (f : ℕ) → ((x : Noted) → x ∈ done → distance x < steps) → suc f + length done ≡ nodes
        → (((z : Noted) → z ∈ done ++ (x ∷ []) → distance z < steps)
        → Ends Ok steps nodes left (explore next steps f (length (done ++ (x ∷ []))) ((done ++ (x ∷ [])) ++ (rest ++ grows.new))))
        → Ends Ok steps nodes left (explore next steps (suc f) (length done) (done ++ (x ∷ rest)))
    unfolding explore
    ends_cases f below e on =
        rw (drop-append_seam done (x ∷ rest), explore) (go (ltb (distance x) steps) (leb_reflects (suc (distance x)) steps))
      where
        grown : List Noted
        grown = grow x.trail (next x.term) (done ++ (x ∷ rest))

        go : (b : Bool) → Reflects (distance x < steps) b
            → Ends Ok steps nodes left
            (elim b [ false ↦ at_end (length done) (done ++ (x ∷ rest)) | true ↦ explore next steps f (suc (length done)) grown ])
        go true near =
            let long : length (done ++ (x ∷ [])) ≡ suc (length done) = rw (length-append done) (omega arith) in
            subst₂ (λ i l. Ends Ok steps nodes left (explore next steps f i l)) long (sym (regrouped tries state grows))
            (on (λ z m. ⊎_elim (below z) (λ n. let p : z ≡ x = only_one n in rw p near) (append_cases done m)))
        go false far = here_ends done (x ∷ rest) state below (omega arith) (inr (λ z m. let h = nearest state.queue z m in omega arith))

  ends_from : (f : ℕ) (done waiting : List Noted) → State Ok left done waiting → ((x : Noted) → x ∈ done → distance x < steps) → f + length done ≡ nodes
      → Ends Ok steps nodes left (explore next steps f (length done) (done ++ waiting))
  unfolding explore
  ends_from ℕ.zero done waiting state below e = here_ends done waiting state below (omega arith) (inl (omega arith))
  ends_from (suc f) done [] state below e =
      rw (drop-append_seam done [], explore) (here_ends done [] state below (omega arith) (inr (λ z m. absurd (not-in-nil m))))
  ends_from (suc f) done (x ∷ rest) state below e =
      let g = grows done x rest state in
      ends_cases done x rest state f below e
      (λ more-below.
      let long : length (done ++ (x ∷ [])) ≡ suc (length done) = rw (length-append done) (omega arith) in
      ends_from f (done ++ (x ∷ [])) (rest ++ g.new) (opens tries state g) more-below (omega arith))

  pub explore_ends : Ends Ok steps nodes left (explore next steps nodes 0 (start left))
  explore_ends = ends_from nodes [] (start left) (starts left) (λ x m. absurd (not-in-nil m)) (omega arith)

-- any search tries the lines that it tries
pub tries_all : (next : Term → List Line) → Tries (λ t x. x ∈ next t) next
tries_all next = record { sound = λ t x m. m; complete = λ t x m. inr (x, m, refl) }

-- no term is noted twice
pub explore_distinct : (next : Term → List Line) (steps nodes : ℕ) (left : Term) → Distinct (terms (explore next steps nodes 0 (start left)).noted)
explore_distinct next steps nodes left = let e = explore_ends (tries_all next) steps nodes left in rw e.parts e.state.distinct
