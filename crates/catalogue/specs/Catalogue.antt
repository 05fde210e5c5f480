-- The catalogue: entries in 64 places, a put and a withdrawal, and the kept count of kinds. It is stated over any kinds that a test tells
-- apart.
use Rattle.std.specs.Prelude.{ℕ, ◌+◌, ◌-◌, Bool, true, false, not, List, [], ◌∷◌, length, replicate, ◌==◌, nat_lt}
use Rattle.std.proofs.Math.Option.{Option, none, some}
use Rattle.text.specs.Answer.{Answer, refused, accepted, ◌>>=◌, require, or_refuse}

-- how many places there are
abbrev pub PLACES : ℕ
PLACES = 64

-- an equation under a number, of a kind
pub record Entry (K : Type 0) : Type 0 where
  pub number : ℕ
  pub kind : K

-- the places, each free or with an entry, and the kept count of kinds
pub record Catalogue (K : Type 0) : Type 0 where
  pub places : List (Option (Entry K))
  pub kept : ℕ

-- an empty catalogue
unfoldable pub empty : {K : Type 0} → Catalogue K
empty = record { places = replicate PLACES none; kept = 0 }

-- the entries held, in the order of their places
unfoldable pub held : {K : Type 0} → List (Option (Entry K)) → List (Entry K)
held [] = []
held (none ∷ ps) = held ps
held (some e ∷ ps) = e ∷ held ps

-- the entry that is listed under a number
unfoldable pub entry_of : {K : Type 0} → ℕ → List (Entry K) → Option (Entry K)
entry_of n [] = none
entry_of n (e ∷ es) = elim (e.number == n) [ true ↦ some e | false ↦ entry_of n es ]

unfoldable pub listed : {K : Type 0} → ℕ → List (Entry K) → Bool
listed n [] = false
listed n (e ∷ es) = elim (e.number == n) [ true ↦ true | false ↦ listed n es ]

-- a put takes the first free place: a withdrawn entry's, where none before it is free
unfoldable pub put_first : {K : Type 0} → Entry K → List (Option (Entry K)) → List (Option (Entry K))
put_first e [] = []
put_first e (none ∷ ps) = some e ∷ ps
put_first e (some d ∷ ps) = some d ∷ put_first e ps

-- the place of the entry with a number is free again
unfoldable pub take_out : {K : Type 0} → ℕ → List (Option (Entry K)) → List (Option (Entry K))
take_out n [] = []
take_out n (none ∷ ps) = none ∷ take_out n ps
take_out n (some d ∷ ps) = elim (d.number == n) [ true ↦ none ∷ ps | false ↦ some d ∷ take_out n ps ]

module _ {K : Type 0} (same : K → K → Bool) where
  -- an entry of that kind is among those
  unfoldable pub has_kind : K → List (Entry K) → Bool
  has_kind k [] = false
  has_kind k (e ∷ es) = elim (same k e.kind) [ true ↦ true | false ↦ has_kind k es ]

  -- 1 for a kind that is not among those, 0 for one that is
  unfoldable pub fresh : K → List (Entry K) → ℕ
  unfolding has_kind
  fresh k es = elim (has_kind k es) [ true ↦ 0 | false ↦ 1 ]

  -- a count of the kinds made afresh
  unfoldable pub kinds : List (Entry K) → ℕ
  unfolding fresh
  kinds [] = 0
  kinds (e ∷ es) = fresh e.kind es + kinds es

  -- a put: 13 if the number is listed, 15 if 64 are listed; a new kind adds one to the kept count
  unfoldable pub put : Entry K → Catalogue K → Answer (Catalogue K)
  unfolding ◌>>=◌ require listed held fresh put_first
  put e c = do
    _ ← require 13 (not (listed e.number (held c.places)))
    _ ← require 15 (nat_lt (length (held c.places)) PLACES)
    accepted (record { places = put_first e c.places; kept = c.kept + fresh e.kind (held c.places) })

  -- a withdrawal: 14 if the number isn't listed; the last of a kind takes one off
  unfoldable pub withdraw : ℕ → Catalogue K → Answer (Catalogue K)
  unfolding ◌>>=◌ or_refuse entry_of held fresh take_out
  withdraw n c = do
    e ← or_refuse 14 (entry_of n (held c.places))
    accepted (record { places = take_out n c.places; kept = c.kept - fresh e.kind (held (take_out n c.places)) })

-- a call returns 100 plus the count of kinds then held, or its refusal
abbrev pub returned : {K : Type 0} → Answer (Catalogue K) → ℕ
returned (refused n) = n
returned (accepted c) = 100 + c.kept

-- a refused call leaves the catalogue unchanged
abbrev pub left_by : {K : Type 0} → Catalogue K → Answer (Catalogue K) → Catalogue K
left_by c (refused n) = c
left_by c (accepted d) = d
