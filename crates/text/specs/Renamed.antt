-- The renamed lists of words, as the functions that put them are given them.
use Rattle.std.specs.Prelude.{◌≡◌, true, false, List, Option, MatchOption}
use Rattle.std.proofs.Math.Dec.{compare_is_eq}
use Rattle.words.specs.Words.{Word, order_lists}
use Rattle.words.specs.Spelled.{spelled}
use Rattle.words.specs.Rename.{canonical_words}
use Rattle.text.specs.declared.answer.Sides.{Sides}

-- none where two lists agree; where they do not, the sides spell the renamed lists
abbrev pub Renamed : List Word → List Word → Option Sides → Type 0
Renamed us vs o =
    MatchOption o (compare_is_eq (order_lists us vs) ≡ true) λ e.
    (compare_is_eq (order_lists us vs) ≡ false) × (e.left.now ≡ spelled (canonical_words us vs).left) × (e.right.now ≡ spelled (canonical_words us vs).right)
