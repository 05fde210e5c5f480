-- The lines of CHECK's text (wish 3): `left=`, `right=`, then any number of `step=` lines, nothing after.
use Rattle.std.specs.Prelude.{ℕ, List, [], ◌∷◌}
use Prim.Native.Char.{code}
use Rattle.std.proofs.Math.Option.{Option, none, some, bind as ◌>>=◌}
use Rattle.terms.specs.Term.{Term}
use Rattle.search.specs.Law.{Law, Name}
use Rattle.search.specs.Line.{Line, Direction, Side}
use Rattle.text.specs.Bytes.{ascii, after, end, up_to, pieces}
use Rattle.text.specs.TermText.{read_term}
use Rattle.text.specs.Layout.{keyed}
use Rattle.text.specs.StepText.{read_law, read_direction, read_place}

-- a step line: its law, direction and place are read, its result is as it is written
pub record StepLayout : Type 0 where
  pub law : Name
  pub direction : Direction
  pub place : List Side
  pub result : List ℕ

-- law, direction and `at=` with a place, each ended by one space, then `to=`; what stands behind that is the term
unfoldable pub step_layout : List Law → List ℕ → Option StepLayout
unfolding ◌>>=◌ up_to read_law read_direction ascii after read_place
step_layout ws bs = do
  n ← up_to (code " ") bs
  d ← up_to (code " ") n.rest
  p ← up_to (code " ") d.rest
  law ← read_law ws n.front
  direction ← read_direction d.front
  at ← after (ascii "at=") p.front
  place ← read_place at
  to ← after (ascii "to=") p.rest
  some (record { law = law; direction = direction; place = place; result = to })

-- the step lines; behind the last byte 10 there is nothing
unfoldable pub step_lines : List Law → List (List ℕ) → Option (List StepLayout)
unfolding ◌>>=◌ end ascii after step_layout
step_lines ws [] = none
step_lines ws (p ∷ []) = end [] p
step_lines ws (p ∷ q ∷ qs) = do
  v ← after (ascii "step=") p
  x ← step_layout ws v
  xs ← step_lines ws (q ∷ qs)
  some (x ∷ xs)

-- the terms as they are written
pub record CheckLayout : Type 0 where
  pub left : List ℕ
  pub right : List ℕ
  pub steps : List StepLayout

unfoldable pub check_layout : List Law → List ℕ → Option CheckLayout
unfolding ◌>>=◌ keyed pieces step_lines
check_layout ws bs = do
  l ← keyed "left=" bs
  r ← keyed "right=" l.rest
  xs ← step_lines ws (pieces 10 r.rest)
  some (record { left = l.front; right = r.front; steps = xs })

-- the line with its result read
abbrev pub line_of : StepLayout → Term → Line
line_of x t = record { law = x.law; direction = x.direction; place = x.place; result = t }

unfoldable pub read_result : StepLayout → Option Line
unfolding ◌>>=◌ read_term
read_result x = do
  t ← read_term x.result
  some (line_of x t)

unfoldable pub read_results : List StepLayout → Option (List Line)
unfolding ◌>>=◌ read_result
read_results [] = some []
read_results (x ∷ xs) = do
  y ← read_result x
  ys ← read_results xs
  some (y ∷ ys)
