-- A buffer filled from the front.
use Rattle.std.proofs.Common.{◌≡◌, ℕ, suc, ◌+◌, ◌-◌, ◌<◌, ◌≤◌, List, [], ◌∷◌, ◌++◌, length, set, take, arith, append_assoc, append-nil, take_all}
use Rattle.std.proofs.lemmas.List.{take_more_set}
use Rattle.replay.specs.Dirt.{dirt}

module _ {A : Type 0} (following : A → A) where
  -- the dirt from x on has x first
  pub dirt_more : (x : A) (i n : ℕ) → i < n → dirt following x (n - i) ≡ x ∷ dirt following (following x) (n - (i + 1))
  unfolding dirt
  dirt_more x i n l =
      let e : n - i ≡ suc (n - (i + 1)) = omega arith in rw e

  pub dirt_none : (x : A) (i n : ℕ) → n ≤ i → dirt following x (n - i) ≡ []
  unfolding dirt
  dirt_none x i n l =
      let e : n - i ≡ 0 = omega arith in rw e

  -- one more number filled in
  pub filled_more : (buffer whole : List A) (x y : A) (i n : ℕ) → length buffer ≡ n → i < n → y ≡ following x
      → take i buffer ++ dirt following x (n - i) ≡ whole
      → take (i + 1) (set buffer i x) ++ dirt following y (n - (i + 1)) ≡ whole
  filled_more buffer whole x y i n len l e h =
      rw (take_more_set buffer i x (omega arith), e, append_assoc) (rw (dirt_more x i n l) at h)

  pub filled_whole : (buffer whole : List A) (x : A) (i n : ℕ) → length buffer ≡ n → n ≤ i
      → take i buffer ++ dirt following x (n - i) ≡ whole → buffer ≡ whole
  filled_whole buffer whole x i n len l h =
      let e = rw (dirt_none x i n l, append-nil, take_all i buffer (omega arith)) at h in e
