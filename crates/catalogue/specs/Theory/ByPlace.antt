-- The entries held, place by place: what loops over the places find, and what a number stored in one place does.
use Rattle.std.specs.Prelude.{◌≡◌, ℕ, zero as 0ℕ, suc, ◌<◌, ◌≤◌, Bool, true, false, List, [], ◌∷◌, length, ◌==◌, ◌≢◌, slice_index_or, slice_set}
use native.Mathlib.Omega.{arith}
use Rattle.std.proofs.Math.Path.{refl, ap}
use Rattle.std.proofs.Common.{◌∙◌}
use Rattle.std.proofs.lemmas.Bool.{false≢true}
use Rattle.std.proofs.Math.Option.{Option, none, some}
use Rattle.terms.specs.Theory.Reflects.{Reflects, eqb_reflects}
use Rattle.catalogue.specs.Catalogue.{Entry, held, entry_of, listed, put_first, take_out, has_kind}

module _ {K : Type 0} where
  -- what stands in place k
  abbrev pub at : List (Option (Entry K)) → ℕ → Option (Entry K)
  at ps k = slice_index_or ps k none

  -- no entry in the first n places is so
  abbrev pub NoneBelow : (Entry K → Type 0) → List (Option (Entry K)) → ℕ → Type 0
  NoneBelow P ps n = (j : ℕ) → j < n → (e : Entry K) → at ps j ≡ some e → P e → ⊥

  -- the first n places are not free
  abbrev pub Filled : List (Option (Entry K)) → ℕ → Type 0
  Filled ps n = (j : ℕ) → j < n → at ps j ≢ none

  -- the first free place takes the entry
  pub put_at : (e : Entry K) (ps : List (Option (Entry K))) (k : ℕ) → k < length ps → at ps k ≡ none → Filled ps k → put_first e ps ≡ slice_set ps k (some e)
  unfolding put_first
  put_at e [] k h a f = absurd (omega arith)
  put_at e (none ∷ ps) 0ℕ h a f = refl
  put_at e (none ∷ ps) (suc k) h a f = absurd (f 0 (omega arith) refl)
  put_at e (some d ∷ ps) 0ℕ h a f = absurd (let z : ◌≡◌ {A = ℕ} 0 1 = cc in omega arith)
  put_at e (some d ∷ ps) (suc k) h a f = ap (λ l. some d ∷ l) (put_at e ps k (omega arith) a (λ j i b. f (suc j) (omega arith) b))

  pub held_short : (ps : List (Option (Entry K))) → length (held ps) ≤ length ps
  unfolding held
  held_short [] = omega arith
  held_short (none ∷ ps) = omega (arith, held_short ps)
  held_short (some d ∷ ps) = omega (arith, held_short ps)

  -- there is a free place, or there is none: 15
  pub room_at : (ps : List (Option (Entry K))) (k : ℕ) → k < length ps → at ps k ≡ none → length (held ps) < length ps
  unfolding held
  room_at [] k h a = absurd (omega arith)
  room_at (none ∷ ps) k h a = omega (arith, held_short ps)
  room_at (some d ∷ ps) 0ℕ h a = absurd (let z : ◌≡◌ {A = ℕ} 0 1 = cc in omega arith)
  room_at (some d ∷ ps) (suc k) h a = omega (arith, room_at ps k (omega arith) a)

  pub full_at : (ps : List (Option (Entry K))) → Filled ps (length ps) → length (held ps) ≡ length ps
  unfolding held
  full_at [] f = refl
  full_at (none ∷ ps) f = absurd (f 0 (omega arith) refl)
  full_at (some d ∷ ps) f = ap suc (full_at ps (λ j i b. f (suc j) (omega arith) b))

  -- the entry under a number, found in place k
  module _ (n : ℕ) where
    abbrev pub Numbered : Entry K → Type 0
    Numbered e = e.number ≡ n

    pub found_at : (ps : List (Option (Entry K))) (k : ℕ) (e : Entry K) → at ps k ≡ some e → Numbered e → NoneBelow Numbered ps k → entry_of n (held ps) ≡ some e
    unfolding held entry_of
    found_at [] k e a m f = absurd (let z : ◌≡◌ {A = ℕ} 0 1 = cc in omega arith)
    found_at (none ∷ ps) 0ℕ e a m f = absurd (let z : ◌≡◌ {A = ℕ} 0 1 = cc in omega arith)
    found_at (none ∷ ps) (suc k) e a m f = found_at ps k e a m (λ j i x b. f (suc j) (omega arith) x b)
    found_at (some d ∷ ps) 0ℕ e a m f = go (d.number == n) (eqb_reflects d.number n)
      where
        go : (b : Bool) → Reflects (d.number ≡ n) b → elim b [ true ↦ some d | false ↦ entry_of n (held ps) ] ≡ some e
        go true p = a
        go false p = absurd (p (let q : d ≡ e = cc in ap (λ x. x.number) q ∙ m))
    found_at (some d ∷ ps) (suc k) e a m f = go (d.number == n) (eqb_reflects d.number n) (found_at ps k e a m (λ j i x b. f (suc j) (omega arith) x b))
      where
        go : (b : Bool) → Reflects (d.number ≡ n) b → entry_of n (held ps) ≡ some e → elim b [ true ↦ some d | false ↦ entry_of n (held ps) ] ≡ some e
        go true p rest = absurd (f 0 (omega arith) d refl p)
        go false p rest = rest

    -- and taken out there
    pub taken_at : (ps : List (Option (Entry K))) (k : ℕ) (e : Entry K) → at ps k ≡ some e → Numbered e → NoneBelow Numbered ps k → take_out n ps ≡ slice_set ps k none
    unfolding take_out
    taken_at [] k e a m f = absurd (let z : ◌≡◌ {A = ℕ} 0 1 = cc in omega arith)
    taken_at (none ∷ ps) 0ℕ e a m f = absurd (let z : ◌≡◌ {A = ℕ} 0 1 = cc in omega arith)
    taken_at (none ∷ ps) (suc k) e a m f = ap (λ l. none ∷ l) (taken_at ps k e a m (λ j i x b. f (suc j) (omega arith) x b))
    taken_at (some d ∷ ps) 0ℕ e a m f = go (d.number == n) (eqb_reflects d.number n)
      where
        go : (b : Bool) → Reflects (d.number ≡ n) b → ◌≡◌ {A = List (Option (Entry K))} (elim b [ true ↦ none ∷ ps | false ↦ some d ∷ take_out n ps ]) (none ∷ ps)
        go true p = refl
        go false p = absurd (p (let q : d ≡ e = cc in ap (λ x. x.number) q ∙ m))
    taken_at (some d ∷ ps) (suc k) e a m f = go (d.number == n) (eqb_reflects d.number n) (taken_at ps k e a m (λ j i x b. f (suc j) (omega arith) x b))
      where
        go : (b : Bool) → Reflects (d.number ≡ n) b → take_out n ps ≡ slice_set ps k none
            → ◌≡◌ {A = List (Option (Entry K))} (elim b [ true ↦ none ∷ ps | false ↦ some d ∷ take_out n ps ]) (some d ∷ slice_set ps k none)
        go true p rest = absurd (f 0 (omega arith) d refl p)
        go false p rest = ap (λ l. some d ∷ l) rest

    -- a number that no place has is not listed: 14, and no 13
    pub unlisted_at : (ps : List (Option (Entry K))) → NoneBelow Numbered ps (length ps) → (entry_of n (held ps) ≡ none) × (listed n (held ps) ≡ false)
    unfolding held entry_of listed
    unlisted_at [] f = (refl, refl)
    unlisted_at (none ∷ ps) f = unlisted_at ps (λ j i x b. f (suc j) (omega arith) x b)
    unlisted_at (some d ∷ ps) f = go (d.number == n) (eqb_reflects d.number n) (unlisted_at ps (λ j i x b. f (suc j) (omega arith) x b))
      where
        go : (b : Bool) → Reflects (d.number ≡ n) b → (entry_of n (held ps) ≡ none) × (listed n (held ps) ≡ false)
            → (◌≡◌ {A = Option (Entry K)} (elim b [ true ↦ some d | false ↦ entry_of n (held ps) ]) none) × (elim b [ true ↦ true | false ↦ listed n (held ps) ] ≡ false)
        go true p rest = absurd (f 0 (omega arith) d refl p)
        go false p rest = rest

    -- one that a place has is
    pub listed_at : (ps : List (Option (Entry K))) (k : ℕ) (e : Entry K) → at ps k ≡ some e → Numbered e → listed n (held ps) ≡ true
    unfolding held listed
    listed_at [] k e a m = absurd (let z : ◌≡◌ {A = ℕ} 0 1 = cc in omega arith)
    listed_at (none ∷ ps) 0ℕ e a m = absurd (let z : ◌≡◌ {A = ℕ} 0 1 = cc in omega arith)
    listed_at (none ∷ ps) (suc k) e a m = listed_at ps k e a m
    listed_at (some d ∷ ps) 0ℕ e a m = go (d.number == n) (eqb_reflects d.number n)
      where
        go : (b : Bool) → Reflects (d.number ≡ n) b → elim b [ true ↦ true | false ↦ listed n (held ps) ] ≡ true
        go true p = refl
        go false p = absurd (p (let q : d ≡ e = cc in ap (λ x. x.number) q ∙ m))
    listed_at (some d ∷ ps) (suc k) e a m = go (d.number == n) (listed_at ps k e a m)
      where
        go : (b : Bool) → listed n (held ps) ≡ true → elim b [ true ↦ true | false ↦ listed n (held ps) ] ≡ true
        go true rest = refl
        go false rest = rest

  -- an entry of a kind, found in a place
  module _ (same : K → K → Bool) (k : K) where
    abbrev pub Alike : Entry K → Type 0
    Alike e = same k e.kind ≡ true

    pub kind_at : (ps : List (Option (Entry K))) (i : ℕ) (e : Entry K) → at ps i ≡ some e → Alike e → has_kind same k (held ps) ≡ true
    unfolding held has_kind
    kind_at [] i e a m = absurd (let z : ◌≡◌ {A = ℕ} 0 1 = cc in omega arith)
    kind_at (none ∷ ps) 0ℕ e a m = absurd (let z : ◌≡◌ {A = ℕ} 0 1 = cc in omega arith)
    kind_at (none ∷ ps) (suc i) e a m = kind_at ps i e a m
    kind_at (some d ∷ ps) 0ℕ e a m = let q : d ≡ e = cc in rw (q, m, has_kind)
    kind_at (some d ∷ ps) (suc i) e a m = go (same k d.kind) (kind_at ps i e a m)
      where
        go : (b : Bool) → has_kind same k (held ps) ≡ true → elim b [ true ↦ true | false ↦ has_kind same k (held ps) ] ≡ true
        go true rest = refl
        go false rest = rest

    -- where it is found
    pub kind_found : (ps : List (Option (Entry K))) → has_kind same k (held ps) ≡ true → (i : ℕ) × (e : Entry K) × (at ps i ≡ some e) × Alike e
    unfolding held has_kind
    kind_found [] t = absurd (false≢true t)
    kind_found (none ∷ ps) t = let (i, e, a, m) = kind_found ps t in (suc i, e, a, m)
    kind_found (some d ∷ ps) t = go (same k d.kind) refl t (kind_found ps)
      where
        go : (b : Bool) → same k d.kind ≡ b → elim b [ true ↦ true | false ↦ has_kind same k (held ps) ] ≡ true
            → (has_kind same k (held ps) ≡ true → (i : ℕ) × (e : Entry K) × (at ps i ≡ some e) × Alike e)
            → (i : ℕ) × (e : Entry K) × (at (some d ∷ ps) i ≡ some e) × Alike e
        go true p t rest = (0, d, refl, p)
        go false p t rest = let (i, e, a, m) = rest t in (suc i, e, a, m)
