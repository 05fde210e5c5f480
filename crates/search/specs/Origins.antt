-- Where a noted term comes from, in four numbers: 0 for the start, or the law's number and 1; the direction; the place; the parent.
use Rattle.std.specs.Prelude.{ℕ, ◌+◌, ◌-◌, cond, List, [], ◌∷◌, eqb, get_or}
use Rattle.search.specs.Coded.{law_number, numbered_law, direction_number, numbered_direction}
use Rattle.search.specs.declared.slots.Step.{Step}
use Rattle.search.specs.declared.slots.Origin.{Origin}
use Rattle.search.specs.declared.slots.Origin.TheVariants.{Start, From}

abbrev pub numbers : Origin → List ℕ
numbers Start = 0 ∷ 0 ∷ 0 ∷ 0 ∷ []
numbers (From s) = (law_number s.law + 1) ∷ direction_number s.direction ∷ s.place ∷ s.parent ∷ []

-- the origin that four numbers of a list stand for
abbrev pub step_at : List ℕ → ℕ → Step
step_at ws at =
    record {
      law = numbered_law (get_or ws at 0 - 1);
      direction = numbered_direction (get_or ws (at + 1) 0);
      place = get_or ws (at + 2) 0;
      parent = get_or ws (at + 3) 0;
    }

abbrev pub origin_at : List ℕ → ℕ → Origin
origin_at ws at = cond (eqb (get_or ws at 0) 0) Start (From (step_at ws at))
