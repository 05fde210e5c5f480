-- A path in the slots of a workspace: what the functions that print it go by.
use Rattle.std.specs.Prelude.{ℕ, ◌≡◌, List}
use Rattle.terms.specs.Term.{Term}
use Rattle.search.specs.Line.{Line}
use Rattle.search.specs.Search.{Noted}
use Rattle.search.specs.Slots.{noted_at, Slots}
use Rattle.search.specs.Traced.{Traced}

-- the lines xs lead from s, which is noted in slot 0, to the terms that are noted in the slots ks
pub record Walk (ws ks : List ℕ) (s : Term) (xs : List Line) : Type 0 where
  pub noted : List Noted
  pub slots : Slots ws noted
  pub start : (noted_at noted 0).term ≡ s
  pub lines : Traced ws noted 0 ks xs
