-- Document 01's rule for letters, which has no c letter; and what is claimed: a job without a c letter has the same answer by both rules, to the
-- byte.
use Rattle.std.specs.Prelude.{ℕ, ◌<◌, ◌≡◌, true, false, List, [], ◌∷◌, ◌++◌, eqb, leb}
use Prim.Native.Char.{code}
use Rattle.std.proofs.Math.Option.{Option, none, some}
use Rattle.terms.specs.Lists.{◌∈◌}
use Rattle.terms.specs.Term.{Term, letter}
use Rattle.terms.specs.Letters.{EachLetter, FIXED, variables}
use Rattle.terms.specs.Build.{Token, atom}
use Rattle.text.specs.Bytes.{ascii, number, read_number}
use Rattle.text.specs.TermText.{write_letter, sign, token, read_term}
use Rattle.text.specs.Layout.{Layout, layout}
use Rattle.text.specs.FindJob.{Layouts, layouts}
use Rattle.text.specs.Find.{find}
use Rattle.text.specs.Words.{words_entry}
use Rattle.text.specs.Rename.{rename_entry}
use Rattle.text.specs.Rule.{Rule}
use Rattle.text.specs.Rule as by

-- `v` and a number up to 999, written likewise; all letters are counted and renamed

unfoldable pub former_letter : Option ℕ → Option Token
former_letter none = none
former_letter (some n) = elim (leb n 999) [ true ↦ some (atom (letter n)) | false ↦ none ]

unfoldable pub former_token : List ℕ → Option Token
unfolding sign former_letter read_number
former_token [] = none
former_token (b ∷ []) = sign b
former_token (b ∷ c ∷ cs) = elim (eqb b (code "v")) [ true ↦ former_letter (read_number (c ∷ cs)) | false ↦ none ]

abbrev pub former : Rule
former = record { token = former_token; write = λ n. ascii "v" ++ number n; counted = λ ns. ns }

-- the rule by which the other files go
abbrev pub present : Rule
present = record { token = token; write = write_letter; counted = variables }

-- at that rule the definitions over a rule are those of the other files
abbrev pub ByPresent : Type 0
ByPresent = ((bs : List ℕ) (slots room : ℕ) → find bs slots room ≡ by.find present bs slots room)
    × ((bs : List ℕ) (room : ℕ) → words_entry bs room ≡ by.words_entry present bs room)
    × ((bs : List ℕ) (room : ℕ) → rename_entry bs room ≡ by.rename_entry present bs room)

-- a term without a c letter
abbrev pub Plain : Term → Type 0
Plain = EachLetter (λ n. n < FIXED)

-- the value of a `left=` or `right=` line is no term with a c letter
abbrev pub PlainSide : List ℕ → Type 0
PlainSide b = (t : Term) → read_term b ≡ some t → Plain t

-- a job without a c letter, with one right side or as FIND takes it; it may be refused

abbrev pub Without : List ℕ → Type 0
Without bs = (w : Layout) → layout bs ≡ some w → PlainSide w.left × PlainSide w.right

abbrev pub FindWithout : List ℕ → Type 0
FindWithout bs = (w : Layouts) → layouts bs ≡ some w → PlainSide w.left × ((b : List ℕ) → b ∈ w.rights → PlainSide b)

-- the same answer, to the byte

abbrev pub FindUnchanged : Type 0
FindUnchanged = (bs : List ℕ) (slots room : ℕ) → FindWithout bs → find bs slots room ≡ by.find former bs slots room

abbrev pub WordsUnchanged : Type 0
WordsUnchanged = (bs : List ℕ) (room : ℕ) → Without bs → words_entry bs room ≡ by.words_entry former bs room

abbrev pub RenameUnchanged : Type 0
RenameUnchanged = (bs : List ℕ) (room : ℕ) → Without bs → rename_entry bs room ≡ by.rename_entry former bs room
