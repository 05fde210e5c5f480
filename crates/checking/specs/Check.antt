-- CHECK's answer (wish 3): derivations from elsewhere, in the form that FIND prints.
use Rattle.std.specs.Prelude.{ℕ, ◌≤◌, ◌<◌, ◌≡◌, length, leb}
use Prim.Native.String.{String}
use mathlib.Core.List.{List, [], ◌∷◌, ◌++◌, map, flat_map}
use Rattle.terms.specs.Lists.{◌∈◌}
use Rattle.terms.specs.Term.{Term, size}
use Rattle.terms.specs.Letters.{letters, rising, those_below, variables}
use Rattle.search.specs.Law.{Law, semiring}
use Rattle.search.specs.Line.{Line}
use Rattle.search.specs.Path.{IsLine, Path}
use Rattle.search.specs.Chain.{any_line, is_chain}
use Rattle.text.specs.Bytes.{ascii}
use Rattle.text.specs.TermText.{Readable, write_term, read_term}
use Rattle.text.specs.Answer.{Answer, accepted, ◌>>=◌, require, or_refuse, fitting, field, printed, values}
use Rattle.text.specs.Job.{few}
use Rattle.text.specs.FindJob.{every, all_small}
use Rattle.text.specs.StepText.{names}
use Rattle.checking.specs.Layout.{CheckLayout, check_layout, read_results}
use Rattle.text.specs.Find.{step}

pub record Derivation : Type 0 where
  pub left : Term
  pub right : Term
  pub path : List Line

-- the sides and the results of all lines
abbrev pub terms_of : Derivation → List Term
terms_of d = d.left ∷ d.right ∷ map (λ x. x.result) d.path

-- refusals 3 and 4; v letters are counted over all terms together
unfoldable pub accept_terms : Derivation → Answer Derivation
unfolding ◌>>=◌ require every size rising those_below letters flat_map
accept_terms d = do
  _ ← require 3 (all_small (terms_of d))
  _ ← require 4 (few (flat_map letters (terms_of d)))
  accepted d

-- refusals 2 to 4: left, right and the result of each line
unfoldable pub derivation_in : CheckLayout → Answer Derivation
unfolding ◌>>=◌ or_refuse read_term read_results accept_terms
derivation_in c = do
  s ← or_refuse 2 (read_term c.left)
  t ← or_refuse 2 (read_term c.right)
  xs ← or_refuse 2 (read_results c.steps)
  accept_terms (record { left = s; right = t; path = xs })

-- 1 to 4 as for jobs, terms of lines included, but up to 8,192 bytes
unfoldable pub read_check : List Law → List ℕ → Answer Derivation
unfolding ◌>>=◌ require or_refuse check_layout derivation_in
read_check ws bs = do
  _ ← require 1 (leb (length bs) 8192)
  c ← or_refuse 1 (check_layout ws bs)
  derivation_in c

unfoldable pub good : List ℕ
unfolding field ascii
good = field "answer=" (ascii "good")

-- 11 if there is no line; 12 if the lines are no such chain; then 8
unfoldable pub judge : List Law → ℕ → Derivation → Answer (List ℕ)
unfolding ◌>>=◌ require any_line is_chain fitting good
judge ws room d = do
  _ ← require 11 (any_line d.path)
  _ ← require 12 (is_chain ws d.left d.path d.right)
  fitting room good

unfoldable pub check_with : List Law → (text : List ℕ) (room : ℕ) → Answer (List ℕ)
unfolding ◌>>=◌ read_check judge
check_with ws bs room = ◌>>=◌ (read_check ws bs) (judge ws room)

unfoldable pub check : (text : List ℕ) (room : ℕ) → Answer (List ℕ)
unfolding check_with semiring
check = check_with semiring

-- CHECK on standard input, printed, with 64 output bytes
unfoldable pub program : (input : List ℕ) → List ℕ
unfolding check printed
program input = printed (check input 64)

-- what the text says

-- a derivation in the form that FIND prints
unfoldable pub derivation_text : Derivation → List ℕ
unfolding field write_term flat_map step
derivation_text d = field "left=" (write_term d.left) ++ (field "right=" (write_term d.right) ++ flat_map step d.path)

-- a text that is not refused by 1 to 4
pub record Derives (ws : List Law) (bs : List ℕ) (d : Derivation) : Type 0 where
  pub written : bs ≡ derivation_text d
  pub short : length bs ≤ 8192
  pub named : (x : Line) → x ∈ d.path → x.law ∈ names ws
  pub readable : (t : Term) → t ∈ terms_of d → Readable t
  pub small : (t : Term) → t ∈ terms_of d → size t ≤ 31
  pub few : length (rising (variables (flat_map letters (terms_of d)))) ≤ 6

-- a nonempty chain from left to right
pub record Chains (ws : List Law) (d : Derivation) : Type 0 where
  pub any : 0 < length d.path
  pub path : Path (IsLine ws) d.left d.path d.right

-- it passes 1 to 4, and there is no line
abbrev pub NoLine : List Law → List ℕ → Type 0
NoLine ws bs = (d : Derivation) × Derives ws bs d × (d.path ≡ [])

-- it passes 1 to 4, there are lines, and they are no chain
abbrev pub NoChain : List Law → List ℕ → Type 0
NoChain ws bs = (d : Derivation) × Derives ws bs d × (0 < length d.path) × (Path (IsLine ws) d.left d.path d.right → ⊥)

-- the lines of a text that have a key
unfoldable pub lines_with : String → List ℕ → List ℕ
unfolding flat_map field values
lines_with key t = flat_map (field key) (values key t)

-- the three kinds of line from an answer of FIND
unfoldable pub three_kinds : List ℕ → List ℕ
unfolding lines_with
three_kinds t = lines_with "left=" t ++ (lines_with "right=" t ++ lines_with "step=" t)
