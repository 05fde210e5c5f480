-- Text in an output of fixed length: it is put as far as the output goes, and measured in any case.
use Rattle.std.specs.Prelude.{ℕ, suc, ◌+◌, ◌<◌, min, ◌≡◌, List, [], ◌∷◌, length, set}

-- out with the text from index at on, as far as it fits: `set` past the end changes nothing
unfoldable pub overlay : List ℕ → ℕ → List ℕ → List ℕ
overlay out at [] = out
overlay out at (b ∷ bs) = overlay (set out at b) (suc at) bs

-- the largest position
abbrev pub top : ℕ
top = 18446744073709551615

-- the text put at a position: where it ends, or the largest position; the output with the text in it; no output reaches the largest position
pub record Put (text out : List ℕ) (at r : ℕ) (out' : List ℕ) : Type 0 where
  pub next : r ≡ min top (at + length text)
  pub bytes : out' ≡ overlay out at text
  pub room : length out < top
