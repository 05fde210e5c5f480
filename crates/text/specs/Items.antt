-- The items of a term's text, by the numbers of its run.
use Rattle.std.specs.Prelude.{ℕ, zero, suc, true, false, List, [], ◌∷◌, eqb, ltb}
use Prim.Native.Char.{code}
use Rattle.terms.specs.Run.{ZERO, ONE, ADD}
use Rattle.text.specs.TermText.{write_letter}

-- the byte of a number that is no letter
unfoldable pub sign_of : ℕ → ℕ
sign_of n =
    elim (eqb n ZERO) [
      | true ↦ code "0"
      | false ↦ elim (eqb n ONE) [ true ↦ code "1" | false ↦ elim (eqb n ADD) [ true ↦ code "+" | false ↦ code "*" ] ]
    ]

unfoldable pub item : ℕ → List ℕ
unfolding write_letter sign_of
item n = elim (ltb n ZERO) [ true ↦ write_letter n | false ↦ sign_of n ∷ [] ]

-- the byte before a piece, unless it is the first
unfoldable pub gap : ℕ → ℕ → List ℕ
gap s zero = []
gap s (suc i) = s ∷ []
