-- Lists of puts and withdrawals, and what is claimed of the catalogue that they leave.
use Rattle.std.specs.Prelude.{◌≡◌, ℕ, Bool, ◌⊎◌, ◌↔◌, List, [], ◌∷◌, map, length}
use Rattle.terms.specs.Lists.{◌∈◌, Distinct}
use Rattle.text.specs.Answer.{Answer, refused, accepted}
use Rattle.catalogue.specs.Catalogue.{PLACES, Entry, Catalogue, held, kinds, put, withdraw, left_by}

pub data Call (K : Type 0) : Type 0 where
  puts : Entry K → Call K
  withdraws : ℕ → Call K

-- none of these calls, all accepted, withdrew the number
abbrev pub Unwithdrawn : {K : Type 0} → ℕ → List (Call K) → Type 0
Unwithdrawn n xs = withdraws n ∈ xs → ⊥

-- one of these calls, all accepted, put the entry, and it was not withdrawn since
pub data Stands {K : Type 0} (e : Entry K) : List (Call K) → Type 0 where
  last : {xs : List (Call K)} → Unwithdrawn e.number xs → Stands e (puts e ∷ xs)
  later : {x : Call K} {xs : List (Call K)} → Stands e xs → Stands e (x ∷ xs)

module _ {K : Type 0} (same : K → K → Bool) where
  unfoldable pub call : Call K → Catalogue K → Answer (Catalogue K)
  unfolding put withdraw
  call (puts e) c = put same e c
  call (withdraws n) c = withdraw same n c

  -- the catalogue after a list of calls
  unfoldable pub after : List (Call K) → Catalogue K → Catalogue K
  unfolding call
  after [] c = c
  after (x ∷ xs) c = after xs (left_by c (call x c))

  -- the calls of the list that were accepted
  unfoldable pub accepted_calls : List (Call K) → Catalogue K → List (Call K)
  unfolding call
  accepted_calls [] c = []
  accepted_calls (x ∷ xs) c = elim (call x c) [ refused n ↦ accepted_calls xs c | accepted d ↦ x ∷ accepted_calls xs d ]

-- a catalogue as it should be: 64 places, no number listed twice, and the kept count is that of the kinds made afresh
pub record Sound {K : Type 0} (same : K → K → Bool) (c : Catalogue K) : Type 0 where
  pub places : length c.places ≡ PLACES
  pub numbers : Distinct (map (λ e. e.number) (held c.places))
  pub kept : c.kept ≡ kinds same (held c.places)

-- accepted calls led from the catalogue c to d: it is as it should be, and the entries held are those that were held before or were put by
-- one of the calls, and were not withdrawn since
pub record Led {K : Type 0} (same : K → K → Bool) (c d : Catalogue K) (xs : List (Call K)) : Type 0 where
  pub sound : Sound same d
  pub entries : (e : Entry K) → (e ∈ held d.places) ↔ ((e ∈ held c.places × Unwithdrawn e.number xs) ⊎ Stands e xs)
