-- What a byte of a term is.
use Rattle.std.specs.Prelude.{ℕ, ◌-◌, true, false, eqb, leb}
use Prim.Native.Char.{code}
use Rattle.text.specs.declared.job.Sign.TheVariants.{Plus, Times, Variable, Fixed}
use Rattle.text.specs.declared.job.Mark.{Mark}
use Rattle.text.specs.declared.job.Mark.TheVariants as is

-- `0` to `9` are digits, and any other byte is foul
unfoldable pub digit : ℕ → Mark
digit b = elim (leb (code "0") b) [ true ↦ elim (leb b (code "9")) [ true ↦ is.Digit (b - code "0") | false ↦ is.Foul ] | false ↦ is.Foul ]

-- `+`, `*`, `v` and `c` are signs
unfoldable pub mark : ℕ → Mark
unfolding digit
mark b =
    elim (eqb b (code "+")) [
      | true ↦ is.Sign Plus
      | false ↦ elim (eqb b (code "*")) [
        | true ↦ is.Sign Times
        | false ↦ elim (eqb b (code "v")) [
          | true ↦ is.Sign Variable
          | false ↦ elim (eqb b (code "c")) [
            | true ↦ is.Sign Fixed
            | false ↦ elim (eqb b (code " ")) [ true ↦ is.Space | false ↦ digit b ]
          ]
        ]
      ]
    ]
