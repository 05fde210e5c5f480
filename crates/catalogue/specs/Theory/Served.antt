-- A withdrawn entry's place serves the next put.
use Rattle.std.specs.Prelude.{◌≡◌, ℕ, zero as 0ℕ, suc, ◌+◌, ◌-◌, ◌<◌, Bool, false, not, List, [], ◌∷◌, length, ◌≢◌, nat_lt, slice_set}
use Rattle.std.proofs.Common.{arith, sym, ◌∙◌, ⊎_elim, length-append, length-set, get_or-set_same, get_or-set_other, set-set}
use Rattle.std.proofs.Math.Path.{refl, ap}
use Rattle.std.proofs.Math.Option.{Option, none, some, none-ne-some}
use Rattle.std.proofs.Math.ListN.{get_or-eq_default}
use borrow.Author.Tests.{lt-ltb}
use Rattle.terms.specs.Lists.{◌∈◌, here, there, in_map, Distinct, more}
use Rattle.terms.specs.Theory.Order.{below?}
use Rattle.text.specs.Answer.{accepted, ◌>>=◌, require, or_refuse}
use Rattle.text.specs.Theory.Accepted.{If_accepted, required_then, found_then}
use Rattle.catalogue.specs.Catalogue.{PLACES, Entry, Catalogue, held, entry_of, listed, put_first, take_out, fresh, put, withdraw}
use Rattle.catalogue.specs.Calls.{Sound}
use Rattle.catalogue.specs.Theory.Kinds.{Tells}
use Rattle.catalogue.specs.Theory.Places.{numbers_in}
use Rattle.catalogue.specs.Theory.Kept.{withdraw_sound}
use Rattle.catalogue.specs.Theory.ByPlace.{at, NoneBelow, Filled, Numbered, put_at, taken_at, held_short}

module _ {K : Type 0} where
  -- a place that has an entry is one of the places
  pub place_inside : (ps : List (Option (Entry K))) (k : ℕ) {d : Entry K} → at ps k ≡ some d → k < length ps
  place_inside ps k {d} a = ⊎_elim (λ h. h) (λ h. absurd (none-ne-some d (sym (get_or-eq_default ps none h) ∙ a))) (below? k (length ps))

  -- and the entry is held
  pub held_at : (ps : List (Option (Entry K))) (k : ℕ) {d : Entry K} → at ps k ≡ some d → d ∈ held ps
  unfolding held
  held_at [] k {d} a = absurd (none-ne-some d a)
  held_at (none ∷ ps) 0ℕ {d} a = absurd (none-ne-some d a)
  held_at (none ∷ ps) (suc k) a = held_at ps k a
  held_at (some e ∷ ps) 0ℕ {d} a = here (let q : d ≡ e = cc in q)
  held_at (some e ∷ ps) (suc k) a = there (held_at ps k a)

  -- where no number is listed twice, it stands in one place
  pub same_place : (ps : List (Option (Entry K))) (j k : ℕ) {d e : Entry K} → at ps j ≡ some d → at ps k ≡ some e → d.number ≡ e.number
      → Distinct (numbers_in (held ps)) → j ≡ k
  unfolding held
  same_place [] j k {d} a b m u = absurd (none-ne-some d a)
  same_place (none ∷ ps) 0ℕ k {d} a b m u = absurd (none-ne-some d a)
  same_place (none ∷ ps) (suc j) 0ℕ {e = e} a b m u = absurd (none-ne-some e b)
  same_place (none ∷ ps) (suc j) (suc k) a b m u = ap suc (same_place ps j k a b m u)
  same_place (some g ∷ ps) 0ℕ 0ℕ a b m u = refl
  same_place (some g ∷ ps) 0ℕ (suc k) {d} {e} a b m (more new u) =
      let q : e.number ≡ g.number = cc in absurd (new (rw q at (in_map (λ x. x.number) (held_at ps k b))))
  same_place (some g ∷ ps) (suc j) 0ℕ {d} {e} a b m (more new u) =
      let q : d.number ≡ g.number = cc in absurd (new (rw q at (in_map (λ x. x.number) (held_at ps j a))))
  same_place (some g ∷ ps) (suc j) (suc k) a b m (more new u) = ap suc (same_place ps j k a b m u)

  -- the entry with the number stands in place k, the first to have it, and no place before it is free: the next put takes place k
  pub next_put : (e : Entry K) (n : ℕ) (ps : List (Option (Entry K))) (k : ℕ) (d : Entry K) → at ps k ≡ some d → d.number ≡ n → NoneBelow (Numbered n) ps k
      → Filled ps k → put_first e (take_out n ps) ≡ slice_set ps k (some e)
  next_put e n ps k d a m first full =
      let inside = place_inside ps k a in
      rw (taken_at n ps k d a m first)
      (put_at e (slice_set ps k none) k (omega (arith, length-set ps k none)) (get_or-set_same ps k none none inside)
      (λ j i free. full j i (sym (get_or-set_other ps k j none none (λ p. omega arith)) ∙ free))
      ∙ set-set ps k none (some e))

module _ {K : Type 0} (same : K → K → Bool) where
  -- the places that calls leave

  places_without : (n : ℕ) (c : Catalogue K) → If_accepted (λ d. d.places ≡ take_out n c.places) (withdraw same n c)
  unfolding withdraw
  places_without n c = found_then (λ d. d.places ≡ take_out n c.places) 14 (entry_of n (held c.places)) _ (λ e f. refl)

  places_with : (e : Entry K) (c : Catalogue K) → If_accepted (λ d. d.places ≡ put_first e c.places) (put same e c)
  unfolding put
  places_with e c =
      required_then (λ d. d.places ≡ put_first e c.places) 13 (not (listed e.number (held c.places))) _ λ _.
      required_then (λ d. d.places ≡ put_first e c.places) 15 (nat_lt (length (held c.places)) PLACES) _ λ _. refl

  pub withdrawn_places : (n : ℕ) (c : Catalogue K) {d : Catalogue K} → withdraw same n c ≡ accepted d → d.places ≡ take_out n c.places
  withdrawn_places n c w = rw w at (places_without n c)

  pub put_places : (e : Entry K) (c : Catalogue K) {d : Catalogue K} → put same e c ≡ accepted d → d.places ≡ put_first e c.places
  put_places e c p = rw p at (places_with e c)

  -- a put that is not refused
  pub put_accepted : (e : Entry K) (c : Catalogue K) → listed e.number (held c.places) ≡ false → length (held c.places) < PLACES
      → put same e c ≡ accepted (record { places = put_first e c.places; kept = c.kept + fresh same e.kind (held c.places) })
  unfolding put ◌>>=◌ require
  put_accepted e c new room = rw (new, lt-ltb (length (held c.places)) PLACES room)

  -- nor is a withdrawal of a number that is listed
  pub withdraw_accepted : (n : ℕ) (c : Catalogue K) {g : Entry K} → entry_of n (held c.places) ≡ some g
      → withdraw same n c ≡ accepted (record { places = take_out n c.places; kept = c.kept - fresh same g.kind (held (take_out n c.places)) })
  unfolding withdraw ◌>>=◌ or_refuse
  withdraw_accepted n c found = rw found

-- a number that stands in place k stands in none before it
pub first_place : {K : Type 0} {same : K → K → Bool} {c : Catalogue K} → Sound same c → {n k : ℕ} {g : Entry K} → at c.places k ≡ some g → g.number ≡ n
    → (j : ℕ) → j < k → {x : Entry K} → at c.places j ≡ some x → x.number ≢ n
first_place {c = c} S {k = k} a m j i b h = let q = same_place c.places j k b a (h ∙ sym m) S.numbers in omega arith

module _ {K : Type 0} {same : K → K → Bool} {c : Catalogue K} (S : Sound same c) (n : ℕ) {d : Catalogue K} (w : withdraw same n c ≡ accepted d) where
  -- where no place before it is free, the place of the entry that is withdrawn serves the next put
  pub served : (k : ℕ) → Filled c.places k → {g : Entry K} → at c.places k ≡ some g → g.number ≡ n
      → (e : Entry K) {f : Catalogue K} → put same e d ≡ accepted f → f.places ≡ slice_set c.places k (some e)
  served k filled {g} a m e p =
      put_places same e d p
      ∙ ap (put_first e) (withdrawn_places same n c w)
      ∙ next_put e n c.places k g a m (λ j i x b h. first_place S a m j i b h) filled

  module _ (tells : Tells same) where
    -- there is room after a withdrawal
    pub withdrawn_room : length (held d.places) < PLACES
    withdrawn_room =
        let W = withdraw_sound tells S w in
        let B = W.between in
        omega (
          arith,
          ap length B.without,
          ap length B.with,
          length-append B.front B.behind,
          length-append B.front (W.entry ∷ B.behind),
          held_short c.places,
          S.places,
        )

    -- so that a put of a number that is then not listed is accepted
    pub put_after : (e : Entry K) → listed e.number (held d.places) ≡ false
        → put same e d ≡ accepted (record { places = put_first e d.places; kept = d.kept + fresh same e.kind (held d.places) })
    put_after e new = put_accepted same e d new withdrawn_room
