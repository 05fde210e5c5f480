-- The laws and directions of the code: what they stand for, their numbers, and the runs of a law's sides.
use Rattle.std.specs.Prelude.{ℕ, ◌≤◌, cond, List, [], ◌∷◌, eqb, length, get_or}
use Rattle.terms.specs.Term.{Term, zero}
use Rattle.terms.specs.Held.{IsRun}
use Rattle.search.specs.Law as law
use Rattle.search.specs.Law.{Name, semiring}
use Rattle.search.specs.Line as line
use Rattle.search.specs.Span.{Pattern}
use Rattle.search.specs.declared.search.Law.{Law}
use Rattle.search.specs.declared.search.Law.TheVariants.{AddAssoc, AddComm, AddZeroRight, MulAssoc, MulOneLeft, MulOneRight, LeftDistrib, RightDistrib, ZeroMul, MulZero}
use Rattle.search.specs.declared.chain.Side.{Side}
use Rattle.search.specs.declared.chain.Side.TheVariants.{Left, Right}
use Rattle.search.specs.declared.search.Direction.{Direction}
use Rattle.search.specs.declared.search.Direction.TheVariants.{Forward, Back}

abbrev pub name_of : Law → Name
name_of AddAssoc = law.add_assoc
name_of AddComm = law.add_comm
name_of AddZeroRight = law.add_zero_right
name_of MulAssoc = law.mul_assoc
name_of MulOneLeft = law.mul_one_left
name_of MulOneRight = law.mul_one_right
name_of LeftDistrib = law.left_distrib
name_of RightDistrib = law.right_distrib
name_of ZeroMul = law.zero_mul
name_of MulZero = law.mul_zero

-- the place of a law in the law order
abbrev pub law_number : Law → ℕ
law_number AddAssoc = 0
law_number AddComm = 1
law_number AddZeroRight = 2
law_number MulAssoc = 3
law_number MulOneLeft = 4
law_number MulOneRight = 5
law_number LeftDistrib = 6
law_number RightDistrib = 7
law_number ZeroMul = 8
law_number MulZero = 9

-- the laws in law order
abbrev pub laws : List Law
laws = AddAssoc ∷ AddComm ∷ AddZeroRight ∷ MulAssoc ∷ MulOneLeft ∷ MulOneRight ∷ LeftDistrib ∷ RightDistrib ∷ ZeroMul ∷ MulZero ∷ []

-- the first law past 9
abbrev pub numbered_law : ℕ → Law
numbered_law n = get_or laws n AddAssoc

-- the law with a number in the law list; past 9 it is none of them
unfoldable pub law_at : ℕ → law.Law
law_at n = get_or semiring n (record { name = law.add_assoc; left = zero; right = zero })

abbrev pub law_of : Law → law.Law
law_of w = law_at (law_number w)

abbrev pub direction_of : Direction → line.Direction
direction_of Forward = line.forward
direction_of Back = line.back

abbrev pub direction_number : Direction → ℕ
direction_number Forward = 0
direction_number Back = 1

-- the sides of the code
abbrev pub side_of : Side → line.Side
side_of Left = line.l
side_of Right = line.r

-- back past 0
abbrev pub numbered_direction : ℕ → Direction
numbered_direction n = cond (eqb n 0) Forward Back

-- the run of a pattern, of at most seven numbers
pub record SideRun (xs : List ℕ) (p : Term) : Type 0 where
  pub pattern : Pattern p
  pub short : length xs ≤ 7
  pub is : IsRun xs p

-- the runs of a law's sides
pub record Sides (xs ys : List ℕ) (w : law.Law) : Type 0 where
  pub left : SideRun xs w.left
  pub right : SideRun ys w.right

-- the runs of its side that is replaced, read in a direction, and of the side that is put in
pub record Directed (xs ys : List ℕ) (w : Law) (d : Direction) : Type 0 where
  pub replaced : SideRun xs (line.from (direction_of d) (law_of w))
  pub put_in : SideRun ys (line.to (direction_of d) (law_of w))
