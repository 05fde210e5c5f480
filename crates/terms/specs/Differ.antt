-- The first place where two lists differ: how many items they begin with in common.
use Rattle.std.specs.Prelude.{ℕ, suc, ◌≤◌, ◌≡◌, List, [], ◌∷◌, length, take, drop}
use Rattle.terms.specs.Compare.{Ordering, lt, eq, gt}

-- counted from 0; a list that is a beginning of the other differs from it at its end
unfoldable pub differ_at : {A : Type 0} → (A → A → Ordering) → List A → List A → ℕ
differ_at o [] ys = 0
differ_at o (x ∷ xs) [] = 0
differ_at o (x ∷ xs) (y ∷ ys) = elim (o x y) [ lt ↦ 0 | eq ↦ suc (differ_at o xs ys) | gt ↦ 0 ]

-- the first k items agree
pub record Agree {A : Type 0} (xs ys : List A) (k : ℕ) : Type 0 where
  pub within : (k ≤ length xs) × (k ≤ length ys)
  pub front : take k xs ≡ take k ys

-- two lists do not begin alike: just one has ended, or the first items differ
abbrev pub Unlike : {A : Type 0} → List A → List A → Type 0
Unlike [] [] = ⊥
Unlike [] (y ∷ ys) = Unit {0}
Unlike (x ∷ xs) [] = Unit {0}
Unlike (x ∷ xs) (y ∷ ys) = x ≡ y → ⊥

-- k is the first place where two lists differ: all before it agrees, and from there on they do not begin alike
pub record DifferAt {A : Type 0} (xs ys : List A) (k : ℕ) : Type 0 where
  pub agree : Agree xs ys k
  pub here : Unlike (drop k xs) (drop k ys)
