-- CHECK once more, over a rule for letters; and what is claimed: a text without a c letter has the same answer by document 01's rule, to the byte.
-- The layout of a text (`check_layout`) and the judging of its lines (`judge`) read and count no letter, so that they are shared.
use Rattle.std.specs.Prelude.{ℕ, ◌≡◌, length, leb}
use Rattle.std.proofs.Math.Option.{Option, some, bind as ◌then◌}
use mathlib.Core.List.{List, [], ◌∷◌, flat_map}
use Rattle.terms.specs.Lists.{◌∈◌}
use Rattle.terms.specs.Term.{size}
use Rattle.terms.specs.Letters.{letters, rising}
use Rattle.search.specs.Law.{semiring}
use Rattle.search.specs.Line.{Line}
use Rattle.text.specs.Answer.{Answer, accepted, ◌>>=◌, require, or_refuse}
use Rattle.text.specs.FindJob.{every, all_small}
use Rattle.text.specs.Rule.{Rule}
use Rattle.text.specs.Rule as by
use Rattle.text.specs.Former.{former, present, PlainSide}
use Rattle.checking.specs.Layout.{StepLayout, CheckLayout, check_layout, line_of}
use Rattle.checking.specs.Check.{Derivation, terms_of, judge}
use Rattle.checking.specs.Check as now

module _ (R : Rule) where
  unfoldable pub read_results : List StepLayout → Option (List Line)
  unfolding ◌then◌ by.read_term
  read_results [] = some []
  read_results (x ∷ xs) = ◌then◌ (◌then◌ (by.read_term R x.result) λ t. some (line_of x t)) λ y. ◌then◌ (read_results xs) λ ys. some (y ∷ ys)

  -- refusals 3 and 4
  unfoldable pub accept_terms : Derivation → Answer Derivation
  unfolding ◌>>=◌ require every size rising letters flat_map
  accept_terms d = do
    _ ← require 3 (all_small (terms_of d))
    _ ← require 4 (by.few R (flat_map letters (terms_of d)))
    accepted d

  -- refusals 2 to 4
  unfoldable pub derivation_in : CheckLayout → Answer Derivation
  unfolding ◌>>=◌ or_refuse by.read_term read_results accept_terms
  derivation_in c = do
    s ← or_refuse 2 (by.read_term R c.left)
    t ← or_refuse 2 (by.read_term R c.right)
    xs ← or_refuse 2 (read_results c.steps)
    accept_terms (record { left = s; right = t; path = xs })

  unfoldable pub read_check : List ℕ → Answer Derivation
  unfolding ◌>>=◌ require or_refuse check_layout semiring derivation_in
  read_check bs = do
    _ ← require 1 (leb (length bs) 8192)
    c ← or_refuse 1 (check_layout semiring bs)
    derivation_in c

  unfoldable pub check : (text : List ℕ) (room : ℕ) → Answer (List ℕ)
  unfolding ◌>>=◌ read_check judge semiring
  check bs room = ◌>>=◌ (read_check bs) (judge semiring room)

-- at the present rule it is CHECK
abbrev pub CheckByPresent : Type 0
CheckByPresent = (bs : List ℕ) (room : ℕ) → now.check bs room ≡ check present bs room

-- a text without a c letter, whose sides and results are no terms with one; it may be refused
abbrev pub CheckWithout : List ℕ → Type 0
CheckWithout bs = (c : CheckLayout) → check_layout semiring bs ≡ some c
    → PlainSide c.left × PlainSide c.right × ((x : StepLayout) → x ∈ c.steps → PlainSide x.result)

-- the same answer, to the byte
abbrev pub CheckUnchanged : Type 0
CheckUnchanged = (bs : List ℕ) (room : ℕ) → CheckWithout bs → now.check bs room ≡ check former bs room
