-- Cases of CHECK by hand (wish 3), and one theorem that evaluates the definitions on all of them.
use Rattle.std.specs.Prelude.{ℕ, ◌≡◌, refl, List, [], ◌∷◌, ◌++◌, map}
use Prim.Native.String.{String}
use Rattle.text.specs.Bytes.{ascii}
use Rattle.text.specs.Answer.{Answer, refused, accepted}
use Rattle.checking.specs.Check.{check}

pub record CheckCase : Type 0 where
  pub text : String
  pub room : ℕ
  pub answer : Answer (List ℕ)

abbrev case : String → ℕ → Answer (List ℕ) → CheckCase
case t n a = record { text = t; room = n; answer = a }

abbrev says : String → Answer (List ℕ)
says t = accepted (ascii t)

pub given : CheckCase → Answer (List ℕ)
given c = check (ascii c.text) c.room

-- text, room, and the text or the number that is due
pub check_cases : List CheckCase
check_cases =
    -- A's lines
    (case "left=v0\nright=+ v0 0\nstep=add_zero_right forward at=. to=+ v0 0\n" 12 (says "answer=good\n"))
    -- D's lines
    ∷ (case "left=v0\nright=+ 0 v0\nstep=add_zero_right forward at=. to=+ v0 0\nstep=add_comm forward at=. to=+ 0 v0\n" 12 (says "answer=good\n"))
    -- places below the root
    ∷ (case "left=+ * v0 + v1 v2 v3\nright=+ * v0 + v2 v1 * 1 v3\nstep=add_comm forward at=lr to=+ * v0 + v2 v1 v3\nstep=mul_one_left forward at=r to=+ * v0 + v2 v1 * 1 v3\n" 12 (says "answer=good\n"))
    -- zero_mul and mul_zero forward bring in a term
    ∷ (case "left=+ 0 v1\nright=+ * * v7 0 v8 v1\nstep=zero_mul forward at=l to=+ * 0 v8 v1\nstep=mul_zero forward at=ll to=+ * * v7 0 v8 v1\n" 12 (says "answer=good\n"))
    -- a chain that comes back
    ∷ (case "left=v0\nright=v0\nstep=mul_one_right forward at=. to=* v0 1\nstep=mul_one_right back at=. to=v0\n" 12 (says "answer=good\n"))
    -- a line that gives back its source
    ∷ (case "left=+ v0 v0\nright=+ v0 v0\nstep=add_comm back at=. to=+ v0 v0\n" 12 (says "answer=good\n"))
    -- 31 nodes
    ∷ (case "left=+ + + + + + + + + + + + + + + v0 v0 v0 v0 v0 v0 v0 v0 v0 v0 v0 v0 v0 v0 v0 v0\nright=+ + + + + + + + + + + + + + + v0 v0 v0 v0 v0 v0 v0 v0 v0 v0 v0 v0 v0 v0 v0 v0\nstep=add_comm forward at=llllllllllllll to=+ + + + + + + + + + + + + + + v0 v0 v0 v0 v0 v0 v0 v0 v0 v0 v0 v0 v0 v0 v0 v0\n" 12 (says "answer=good\n"))
    -- no room
    ∷ (case "left=v0\nright=+ v0 0\nstep=add_zero_right forward at=. to=+ v0 0\n" 11 (refused 8))
    -- 1: nothing
    ∷ (case "" 12 (refused 1))
    -- 1: no step line's end
    ∷ (case "left=v0\nright=+ v0 0\nstep=add_zero_right forward at=. to=+ v0 0" 12 (refused 1))
    -- 1: something behind
    ∷ (case "left=v0\nright=+ v0 0\nstep=add_zero_right forward at=. to=+ v0 0\nx" 12 (refused 1))
    -- 1: an empty line behind
    ∷ (case "left=v0\nright=+ v0 0\nstep=add_zero_right forward at=. to=+ v0 0\n\n" 12 (refused 1))
    -- 1: another key
    ∷ (case "left=v0\nright=+ v0 0\nstep=add_zero_right forward at=. to=+ v0 0\nproof=\n" 12 (refused 1))
    -- 1: no right side
    ∷ (case "left=v0\nstep=add_zero_right forward at=. to=+ v0 0\n" 12 (refused 1))
    -- 1: no such law
    ∷ (case "left=v0\nright=+ v0 0\nstep=add_zero forward at=. to=+ v0 0\n" 12 (refused 1))
    -- 1: a law of another name
    ∷ (case "left=v0\nright=+ v0 0\nstep=add_idem forward at=. to=+ v0 0\n" 12 (refused 1))
    -- 1: no such direction
    ∷ (case "left=v0\nright=+ v0 0\nstep=add_zero_right backward at=. to=+ v0 0\n" 12 (refused 1))
    -- 1: no place
    ∷ (case "left=v0\nright=+ v0 0\nstep=add_zero_right forward at= to=+ v0 0\n" 12 (refused 1))
    -- 1: . and a side
    ∷ (case "left=v0\nright=+ v0 0\nstep=add_zero_right forward at=.l to=+ v0 0\n" 12 (refused 1))
    -- 1: no side
    ∷ (case "left=v0\nright=+ v0 0\nstep=add_zero_right forward at=lx to=+ v0 0\n" 12 (refused 1))
    -- 1: no to=
    ∷ (case "left=v0\nright=+ v0 0\nstep=add_zero_right forward at=. + v0 0\n" 12 (refused 1))
    -- 1: two spaces
    ∷ (case "left=v0\nright=+ v0 0\nstep=add_zero_right  forward at=. to=+ v0 0\n" 12 (refused 1))
    -- 1 before 2
    ∷ (case "left=w0\nright=+ v0 0\nstep=add_zero_right forward at=. to=+ v0 0\nstep=\n" 12 (refused 1))
    -- 2: a side is no term
    ∷ (case "left=+ v0\nright=+ v0 0\nstep=add_zero_right forward at=. to=+ v0 0\n" 12 (refused 2))
    -- 2: a side is no term, and there is no line
    ∷ (case "left=v0\nright=\n" 12 (refused 2))
    -- 2: a result is no term
    ∷ (case "left=v0\nright=+ v0 0\nstep=add_zero_right forward at=. to=+ v0\n" 12 (refused 2))
    -- 2: an empty result
    ∷ (case "left=v0\nright=+ v0 0\nstep=add_zero_right forward at=. to=\n" 12 (refused 2))
    -- 2: v1000
    ∷ (case "left=v0\nright=+ v0 0\nstep=add_zero_right forward at=. to=+ v1000 0\n" 12 (refused 2))
    -- 2: a second space behind to=
    ∷ (case "left=v0\nright=+ v0 0\nstep=add_zero_right forward at=. to=+ v0  0\n" 12 (refused 2))
    -- 2 before 3
    ∷ (case "left=+ + + + + + + + + + + + + + + + v0 v0 v0 v0 v0 v0 v0 v0 v0 v0 v0 v0 v0 v0 v0 v0 v0\nright=+ v0 0\nstep=add_zero_right forward at=. to=+ v0 0\nstep=add_comm back at=. to=\n" 12 (refused 2))
    -- 3: a side of 33 nodes
    ∷ (case "left=+ + + + + + + + + + + + + + + + v0 v0 v0 v0 v0 v0 v0 v0 v0 v0 v0 v0 v0 v0 v0 v0 v0\nright=+ v0 0\nstep=add_zero_right forward at=. to=+ v0 0\n" 12 (refused 3))
    -- 3: a result of 33 nodes
    ∷ (case "left=v0\nright=+ v0 0\nstep=add_zero_right forward at=. to=+ v0 0\nstep=add_comm back at=. to=+ + + + + + + + + + + + + + + + v0 v0 v0 v0 v0 v0 v0 v0 v0 v0 v0 v0 v0 v0 v0 v0 v0\n" 12 (refused 3))
    -- 3 before 4 and 11
    ∷ (case "left=+ + + + + + + + + + + + + + + + v0 v0 v0 v0 v0 v0 v0 v0 v0 v0 v0 v0 v0 v0 v0 v0 v0\nright=+ + + + + + v0 v1 v2 v3 v4 v5 v6\n" 12 (refused 3))
    -- 4: a seventh v letter in a result
    ∷ (case "left=+ 0 + + + + + v0 v1 v2 v3 v4 v5\nright=+ 0 + + + + + v0 v1 v2 v3 v4 v5\nstep=zero_mul forward at=l to=+ * 0 v6 + + + + + v0 v1 v2 v3 v4 v5\nstep=zero_mul back at=l to=+ 0 + + + + + v0 v1 v2 v3 v4 v5\n" 12 (refused 4))
    -- six v letters
    ∷ (case "left=+ 0 + + + + + v0 v1 v2 v3 v4 v5\nright=+ 0 + + + + + v0 v1 v2 v3 v4 v5\nstep=zero_mul forward at=l to=+ * 0 v5 + + + + + v0 v1 v2 v3 v4 v5\nstep=zero_mul back at=l to=+ 0 + + + + + v0 v1 v2 v3 v4 v5\n" 12 (says "answer=good\n"))
    -- six v letters and a c letter
    ∷ (case "left=+ 0 + + + + + v0 v1 v2 v3 v4 v5\nright=+ 0 + + + + + v0 v1 v2 v3 v4 v5\nstep=zero_mul forward at=l to=+ * 0 c6 + + + + + v0 v1 v2 v3 v4 v5\nstep=zero_mul back at=l to=+ 0 + + + + + v0 v1 v2 v3 v4 v5\n" 12 (says "answer=good\n"))
    -- 2: no such c letter
    ∷ (case "left=c99\nright=+ c100 0\nstep=add_zero_right forward at=. to=+ c99 0\n" 12 (refused 2))
    -- 12: another c letter
    ∷ (case "left=c0\nright=+ c1 0\nstep=add_zero_right forward at=. to=+ c1 0\n" 12 (refused 12))
    -- 4 before 11
    ∷ (case "left=+ + + + + v0 v1 v2 v3 v4 v5\nright=v6\n" 12 (refused 4))
    -- 4 before 12
    ∷ (case "left=+ + + + + v0 v1 v2 v3 v4 v5\nright=v6\nstep=add_comm forward at=. to=v6\n" 12 (refused 4))
    -- 11: no line
    ∷ (case "left=v0\nright=+ v0 0\n" 12 (refused 11))
    -- 11: no line and the sides the same
    ∷ (case "left=v0\nright=v0\n" 12 (refused 11))
    -- 11 before 8
    ∷ (case "left=v0\nright=v0\n" 0 (refused 11))
    -- 12: a place that is not in the term
    ∷ (case "left=v0\nright=+ v0 0\nstep=add_zero_right forward at=l to=+ v0 0\n" 12 (refused 12))
    -- 12: a law that does not match
    ∷ (case "left=v0\nright=+ v0 0\nstep=add_comm forward at=. to=+ v0 0\n" 12 (refused 12))
    -- 12: the other direction
    ∷ (case "left=v0\nright=+ v0 0\nstep=add_zero_right back at=. to=+ v0 0\n" 12 (refused 12))
    -- 12: another result of the law
    ∷ (case "left=v0\nright=+ v0 0\nstep=add_zero_right forward at=. to=+ v1 0\n" 12 (refused 12))
    -- 12: the last result is not right
    ∷ (case "left=v0\nright=+ 0 v0\nstep=add_zero_right forward at=. to=+ v0 0\n" 12 (refused 12))
    -- 12: a line that is none on the result before
    ∷ (case "left=v0\nright=+ v0 0\nstep=add_zero_right forward at=. to=+ v0 0\nstep=mul_one_left back at=. to=+ v0 0\n" 12 (refused 12))
    -- 12: something else is changed, too
    ∷ (case "left=+ v0 v1\nright=+ * v0 1 v2\nstep=mul_one_right forward at=l to=+ * v0 1 v2\n" 12 (refused 12))
    -- 12 before 8
    ∷ (case "left=v0\nright=+ v0 0\nstep=add_zero_right forward at=l to=+ v0 0\n" 0 (refused 12))
    ∷ []

pub check_cases_hold : map given check_cases ≡ map (λ c. c.answer) check_cases
unfolding check_cases given check ascii
check_cases_hold = refl

-- the bound on the bytes
abbrev zeros : (n : ℕ) → List ℕ
zeros ℕ.zero = []
zeros (ℕ.suc n) = 48 ∷ zeros n

-- 2, a side that is no term, in 8,192 bytes; 1 in one more
pub check_long : check (ascii "left=" ++ (zeros 8179 ++ ascii "\nright=0\n")) 12 ≡ refused 1
unfolding check ascii
check_long = refl

pub check_longest : check (ascii "left=" ++ (zeros 8178 ++ ascii "\nright=0\n")) 12 ≡ refused 2
unfolding check ascii
check_longest = refl
