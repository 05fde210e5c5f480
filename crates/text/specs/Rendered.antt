-- The proof text of a term, by the numbers of its run.
use Rattle.std.specs.Prelude.{ℕ, true, false, List, eqb, ltb}
use Rattle.terms.specs.Run.{ZERO, ADD}
use Rattle.text.specs.Bytes.{ascii}
use Rattle.text.specs.Proof.{ref, variable, index_of}

-- a letter, 0 or 1
unfoldable pub atom : List ℕ → ℕ → List ℕ
unfolding ref variable index_of ascii
atom names n =
    elim (ltb n ZERO) [
      | true ↦ ref (variable (index_of n names))
      | false ↦ elim (eqb n ZERO) [ true ↦ ref (ascii "zeroA") | false ↦ ref (ascii "oneA") ]
    ]

-- a sum or product up to its left part
unfoldable pub operator : ℕ → List ℕ
unfolding ascii
operator n = elim (eqb n ADD) [ true ↦ ascii "(app (app (ref add) " | false ↦ ascii "(app (app (ref mul) " ]
