-- A written place followed byte by byte.
use Rattle.std.proofs.Common.{◌≡◌, ℕ, ◌+◌, ◌<◌, ◌≤◌, List, [], ◌∷◌, length, get_or, drop, drop-cons, add-one, refl, sym, ◌⊎◌, inl, inr, arith, Some, None}
use lib.ListN.{drop_of_length-le}
use Rattle.std.proofs.Math.Option.{none, some}
use Rattle.terms.specs.Term.{Term}
use Rattle.terms.specs.Held.{IsRun}
use Rattle.search.specs.Line.{Side, l, r}
use Rattle.search.specs.Position.{position}
use Rattle.search.specs.Used.{PartOn}
use Rattle.text.specs.StepText.{sides, place}
use Rattle.checking.specs.PlaceRead.{named_side, Locates}
use Rattle.checking.proofs.Walking.{Walks, walk_starts, walk_on, walk_nowhere, walk_ends}

-- the bytes left are the sides left, or the dot of the root
abbrev Left : List ℕ → List Side → Type 0
Left bs q = (bs ≡ sides q) ⊎ ((bs ≡ 46 ∷ []) × (q ≡ []))

pub record Going (xs : List ℕ) (t : Term) (p : List Side) (n : ℕ) (bs : List ℕ) : Type 0 where
  pub sides : List Side
  pub walk : Walks xs t p n sides
  pub left : Left bs sides

left_starts : (p : List Side) {bs : List ℕ} → bs ≡ place p → Left bs p
unfolding place
left_starts [] e = inr (e, refl)
left_starts (d ∷ p) e = inl e

-- one byte less
pub record Next (b : ℕ) (bs : List ℕ) (q : List Side) : Type 0 where
  pub dot : b ≡ 46 → Left bs q
  pub side : (b ≡ 46 → ⊥) → (rest : List Side) × (q ≡ named_side b ∷ rest) × (bs ≡ sides rest)

next_byte : (b : ℕ) (bs : List ℕ) (q : List Side) → Left (b ∷ bs) q → Next b bs q
unfolding sides
next_byte b bs q (inr (e, k)) =
    let first : b ≡ 46 = cc in
    let rest : bs ≡ [] = cc in
    record { dot = λ h. rw (rest, k) (inl refl); side = λ h. absurd (h first) }
next_byte b bs [] (inl e) = absurd (let z : ◌≡◌ {A = ℕ} 0 1 = cc in omega arith)
next_byte b bs (l ∷ q) (inl e) =
    let first : b ≡ 108 = cc in
    let rest : bs ≡ sides q = cc in
    record { dot = λ h. absurd (omega arith); side = λ h. (q, rw first, rest) }
next_byte b bs (r ∷ q) (inl e) =
    let first : b ≡ 114 = cc in
    let rest : bs ≡ sides q = cc in
    record { dot = λ h. absurd (omega arith); side = λ h. (q, rw first, rest) }

none_left : (q : List Side) → Left [] q → q ≡ []
unfolding sides
none_left q (inr (e, k)) = k
none_left [] (inl e) = refl
none_left (l ∷ q) (inl e) = absurd (let z : ◌≡◌ {A = ℕ} 0 1 = cc in omega arith)
none_left (r ∷ q) (inl e) = absurd (let z : ◌≡◌ {A = ℕ} 0 1 = cc in omega arith)

module _ {xs : List ℕ} {t : Term} {p : List Side} where
  go_starts : {bs : List ℕ} → IsRun xs t → bs ≡ place p → Going xs t p 0 bs
  go_starts h e = record { sides = p; walk = walk_starts h; left = left_starts p e }

  module _ {n b : ℕ} {bs : List ℕ} (g : Going xs t p n (b ∷ bs)) where
    next : Next b bs g.sides
    next = next_byte b bs g.sides g.left

    go_dot : b ≡ 46 → Going xs t p n bs
    go_dot e = record { sides = g.sides; walk = g.walk; left = next.dot e }

    module _ (other : b ≡ 46 → ⊥) where
      go_on : (k : ℕ) → PartOn xs n (named_side b) (Some k) → Going xs t p k bs
      go_on k P =
          let (rest, whole, bytes) = next.side other in
          record { sides = rest; walk = walk_on k P (rw whole at g.walk); left = inl bytes }

      go_nowhere : PartOn xs n (named_side b) None → position p t ≡ none
      go_nowhere P = let (rest, whole, bytes) = next.side other in walk_nowhere P (rw whole at g.walk)

  go_ends : {n : ℕ} → Going xs t p n [] → position p t ≡ some n
  go_ends {n} g = walk_ends (rw (none_left g.sides g.left) at g.walk)

-- what the loop keeps: the first bytes lead to a position
pub record Reaches (s xs : List ℕ) (n i : ℕ) : Type 0 where
  pub within : n ≤ length xs
  pub going : (t : Term) → IsRun xs t → (p : List Side) → s ≡ place p → Going xs t p n (drop i s)

pub follow_starts : (s xs : List ℕ) → Reaches s xs 0 0
follow_starts s xs = record { within = omega arith; going = λ t h p e. go_starts h e }

module _ {s xs : List ℕ} {n i : ℕ} (f : Reaches s xs n i) where
  pub follow_ends : length s ≤ i → Locates s xs (Some n)
  follow_ends h = record { within = f.within; exact = λ t ht p e. sym (go_ends (rw (drop_of_length-le s h) at (f.going t ht p e))) }

  module _ (inside : i < length s) where
    at_byte : (t : Term) → IsRun xs t → (p : List Side) → s ≡ place p → Going xs t p n (get_or s i 0 ∷ drop (i + 1) s)
    at_byte t ht p e = rw add-one (rw (drop-cons s i 0 inside) at (f.going t ht p e))

    pub follow_dot : get_or s i 0 ≡ 46 → Reaches s xs n (i + 1)
    follow_dot h = record { within = f.within; going = λ t ht p e. go_dot (at_byte t ht p e) h }

    module _ (other : get_or s i 0 ≡ 46 → ⊥) where
      pub follow_side : (k : ℕ) → PartOn xs n (named_side (get_or s i 0)) (Some k) → Reaches s xs k (i + 1)
      follow_side k P = record { within = P.within; going = λ t ht p e. go_on (at_byte t ht p e) other k P }

      pub follow_nowhere : PartOn xs n (named_side (get_or s i 0)) None → Locates s xs None
      follow_nowhere P = record { within = tt; exact = λ t ht p e. sym (go_nowhere (at_byte t ht p e) other P) }
