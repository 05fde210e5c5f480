-- A step line: law, direction, place and result. How it is printed, and how it is read.
use Rattle.std.specs.Prelude.{ℕ, true, false, List, [], ◌∷◌, ◌++◌, map, eqb}
use Prim.Native.Char.{code}
use Rattle.std.proofs.Math.Option.{Option, none, some, or_else, bind as ◌>>=◌}
use Rattle.terms.specs.Build.{read}
use Rattle.search.specs.Law.{Law, Name}
use Rattle.search.specs.Law.{add_assoc, add_comm, add_zero_right, mul_assoc, mul_one_left, mul_one_right, left_distrib, right_distrib, zero_mul, mul_zero}
use Rattle.search.specs.Line.{Line, Direction, forward, back, Side, l, r}
use Rattle.text.specs.Bytes.{ascii, after, end, parted, pieces}
use Rattle.text.specs.TermText.{write_term, token}
use Rattle.text.specs.Answer.{values}

unfoldable pub law_name : Name → List ℕ
unfolding ascii
law_name add_assoc = ascii "add_assoc"
law_name add_comm = ascii "add_comm"
law_name add_zero_right = ascii "add_zero_right"
law_name mul_assoc = ascii "mul_assoc"
law_name mul_one_left = ascii "mul_one_left"
law_name mul_one_right = ascii "mul_one_right"
law_name left_distrib = ascii "left_distrib"
law_name right_distrib = ascii "right_distrib"
law_name zero_mul = ascii "zero_mul"
law_name mul_zero = ascii "mul_zero"

unfoldable pub direction : Direction → List ℕ
unfolding ascii
direction forward = ascii "forward"
direction back = ascii "back"

unfoldable pub sides : List Side → List ℕ
unfolding ascii
sides [] = []
sides (l ∷ p) = ascii "l" ++ sides p
sides (r ∷ p) = ascii "r" ++ sides p

-- `.` the root, else `l` and `r`, outermost first
unfoldable pub place : List Side → List ℕ
unfolding ascii sides
place [] = ascii "."
place (d ∷ p) = sides (d ∷ p)

-- what stands behind `step=`
unfoldable pub step_value : Line → List ℕ
unfolding ascii parted law_name direction place write_term
step_value x =
    parted (code " ")
    (law_name x.law
    ∷ direction x.direction
    ∷ (ascii "at=" ++ place x.place)
    ∷ (ascii "to=" ++ write_term x.result)
    ∷ [])

-- the first of the values whose text it is
unfoldable pub which : {A : Type 0} → (A → List ℕ) → List A → List ℕ → Option A
unfolding or_else ◌>>=◌ after end
which text [] bs = none
which text (x ∷ xs) bs = or_else (◌>>=◌ (after (text x) bs) (end x)) (which text xs bs)

abbrev pub names : List Law → List Name
names ws = map (λ w. w.name) ws

-- the law of the list whose name it is
unfoldable pub read_law : List Law → List ℕ → Option Name
unfolding which law_name
read_law ws = which law_name (names ws)

unfoldable pub read_direction : List ℕ → Option Direction
unfolding which direction
read_direction = which direction (forward ∷ back ∷ [])

unfoldable pub read_side : ℕ → Option Side
read_side b = elim (eqb b (code "l")) [ true ↦ some l | false ↦ elim (eqb b (code "r")) [ true ↦ some r | false ↦ none ] ]

unfoldable pub read_sides : List ℕ → Option (List Side)
unfolding ◌>>=◌ read_side
read_sides [] = some []
read_sides (b ∷ bs) = do
  d ← read_side b
  p ← read_sides bs
  some (d ∷ p)

-- `.` alone, or at least one side
unfoldable pub read_place : List ℕ → Option (List Side)
unfolding end read_sides
read_place [] = none
read_place (b ∷ bs) = elim (eqb b (code ".")) [ true ↦ end [] bs | false ↦ read_sides (b ∷ bs) ]

-- the line that the pieces between single spaces tell; those behind `to=` are the items of its result
unfoldable pub read_pieces : List Law → List (List ℕ) → Option Line
unfolding ◌>>=◌ ascii after read token read_law read_direction read_place
read_pieces ws [] = none
read_pieces ws (n ∷ []) = none
read_pieces ws (n ∷ d ∷ []) = none
read_pieces ws (n ∷ d ∷ p ∷ []) = none
read_pieces ws (n ∷ d ∷ p ∷ t ∷ ts) = do
  law ← read_law ws n
  direction ← read_direction d
  at ← after (ascii "at=") p
  place ← read_place at
  to ← after (ascii "to=") t
  result ← read token (to ∷ ts)
  some (record { law = law; direction = direction; place = place; result = result })

-- the line that stands behind `step=`
unfoldable pub read_step : List Law → List ℕ → Option Line
unfolding pieces read_pieces
read_step ws bs = read_pieces ws (pieces (code " ") bs)

-- what the `step=` lines of a text tell, in order
unfoldable pub read_steps : List Law → List ℕ → List (Option Line)
unfolding values read_step
read_steps ws t = map (read_step ws) (values "step=" t)
