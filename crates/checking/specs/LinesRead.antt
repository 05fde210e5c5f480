-- What the functions that read the lines of a derivation promise, and those that ask something of its terms.
use Rattle.std.specs.Prelude.{ℕ, ◌<◌, ◌≡◌, Bool, true, false, leb, length, Result, Ok, Err, ◌⊎◌}
use Rattle.std.specs.Prelude as answered
use Rattle.std.specs.Option as answered-option
use Rattle.std.proofs.Math.Option.{none, some}
use mathlib.Core.List.{List, ◌∷◌, map, flat_map}
use Rattle.terms.specs.Term.{Term}
use Rattle.terms.specs.Held.{IsRun}
use Rattle.terms.specs.Letters.{letters, rising, variables}
use Rattle.search.specs.Law.{semiring}
use Rattle.search.specs.Line.{Line}
use Rattle.text.specs.declared.refusal.Refusal.{Refusal}
use Rattle.text.specs.declared.refusal.Refusal.TheVariants as refusal
use Rattle.text.specs.TermText.{read_term}
use Rattle.text.specs.Job.{few}
use Rattle.text.specs.FindJob.{all_small}
use Rattle.checking.specs.declared.lines.Written.{Written}
use Rattle.checking.specs.Layout.{StepLayout, check_layout, read_results}
use Rattle.checking.specs.LineRead.{lines_from}

-- of `read`: the run of the term that a text spells
pub record ReadsTerm (bs run : List ℕ) : Type 0 where
  pub term : Term
  pub read : read_term bs ≡ some term
  pub whole : IsRun run term

-- of `layout_of`: the lines of a derivation, with the sides and the step lines as they are written
pub record LaidOut (s : List ℕ) (w : Written) : Type 0 where
  pub left_within : length w.left.now < length s
  pub right_within : length w.right.now < length s
  pub steps_within : length w.steps.now < length s
  pub steps : List StepLayout
  pub from_there : lines_from w.steps.now ≡ some steps
  pub lines : check_layout semiring s ≡ some (record { left = w.left.now; right = w.right.now; steps = steps })

-- the terms of the results
abbrev pub results : List Line → List Term
results ys = map (λ x. x.result) ys

-- one of the results is no term, one has over 31 nodes, or all are small
abbrev pub ResultsRead : List StepLayout → Result (Unit {0}) Refusal → Type 0
ResultsRead xs (Err e) =
    (e ≡ refusal.NoTerm → read_results xs ≡ none)
    × (e ≡ refusal.TooLarge → (ys : List Line) × (read_results xs ≡ some ys) × (all_small (results ys) ≡ false))
    × ((e ≡ refusal.NoTerm) ⊎ (e ≡ refusal.TooLarge))
ResultsRead xs (Ok u) = (ys : List Line) × (read_results xs ≡ some ys) × (all_small (results ys) ≡ true)

-- of `read_results`
pub record ReadsResults (s : List ℕ) (r : Result (Unit {0}) Refusal) : Type 0 where
  pub exact : (xs : List StepLayout) → lines_from s ≡ some xs → ResultsRead xs r

-- of `variables`: there is room for the v letters in so many numbers, or there is not
pub record Variables (left right s : List ℕ) (room : ℕ) (r : answered.Option ℕ) : Type 0 where
  pub exact : (xs : List StepLayout) (ys : List Line) (t u : Term) → lines_from s ≡ some xs → read_results xs ≡ some ys
      → IsRun left t → IsRun right u → answered-option.is_some r ≡ leb (length (rising (variables (flat_map letters (t ∷ u ∷ results ys))))) room

-- of `few_variables`
pub record FewVariables (left right s : List ℕ) (r : Bool) : Type 0 where
  pub exact : (xs : List StepLayout) (ys : List Line) (t u : Term) → lines_from s ≡ some xs → read_results xs ≡ some ys
      → IsRun left t → IsRun right u → r ≡ few (flat_map letters (t ∷ u ∷ results ys))
