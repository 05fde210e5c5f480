-- Texts of answers, and parts of them, as they are put.
use Rattle.std.specs.Prelude.{ℕ, Bool, List, [], ◌∷◌, ◌++◌, length}
use Prim.Native.Char.{code}
use mathlib.Core.List.{flatten}
use Rattle.terms.specs.Term.{Term}
use Rattle.search.specs.Law.{semiring}
use Rattle.search.specs.Line.{Line}
use Rattle.text.specs.Bytes.{number, parted}
use Rattle.text.specs.Answer.{field}
use Rattle.text.specs.Find.{uses, path_lines, none_lines}

-- where a path is found: `more` stands after `steps=`
abbrev pub path_text : (verdict : List ℕ) → Term → Term → (more : List ℕ) → List Line → ℕ → List ℕ
path_text verdict s t more xs e = flatten (path_lines semiring verdict s t (more ∷ []) xs e)

-- where none is found
abbrev pub none_text : Term → Term → ℕ → Bool → List ℕ
none_text s t e c = flatten (none_lines s t e c)

-- how many lines a path has, what stands after that, how many terms were opened, and the laws used
abbrev pub figures : (more : List ℕ) → ℕ → List Line → List ℕ
figures more e xs =
    field "steps=" (number (length xs)) ++ (more ++ (field "expanded=" (number e) ++ field "uses=" (parted (code ",") (uses semiring xs))))
