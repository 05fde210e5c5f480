-- What contracts see of an equation in the making.
use Rattle.std.specs.Prelude.{ℕ, take}
use Rattle.std.specs.Borrow.{GName}
use Rattle.words.specs.declared.candidate.making.Equation.{Equation}
use Rattle.words.specs.Candidate.{Making, room_of}

-- its two runs, and the room
abbrev pub made : Equation → Making
made e =
    record {
      sides = record { left = take e.left_length e.left.now; right = take e.right_length e.right.now };
      room = room_of e.left.now e.right.now;
    }

-- what is lent to it: which two references, and how many numbers each side has room for
pub record Lent : Type 0 where
  pub left : GName
  pub right : GName
  pub room : ℕ

abbrev pub lent : Equation → Lent
lent e = record { left = e.left.ghost_name; right = e.right.ghost_name; room = room_of e.left.now e.right.now }
