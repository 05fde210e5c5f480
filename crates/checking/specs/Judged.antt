-- What the functions that judge a derivation promise.
use Rattle.std.specs.Prelude.{ℕ, ◌≡◌, Bool, true, Result, Ok, Err}
use Rattle.std.proofs.Math.Option.{some}
use mathlib.Core.List.{List, flat_map}
use Rattle.terms.specs.Term.{Term}
use Rattle.terms.specs.Held.{IsRun}
use Rattle.terms.specs.Letters.{letters}
use Rattle.search.specs.Law.{semiring}
use Rattle.search.specs.Line.{Line}
use Rattle.search.specs.Chain.{is_line, leads}
use Rattle.text.specs.Refusal.{number_of}
use Rattle.text.specs.declared.refusal.Refusal.{Refusal}
use Rattle.text.specs.Answer.{Answer, refused, ◌>>=◌, require, fitting}
use Rattle.text.specs.Job.{few}
use Rattle.text.specs.FindJob.{all_small}
use Rattle.checking.specs.declared.line.Step.{Step}
use Rattle.checking.specs.Layout.{StepLayout, line_of, read_results}
use Rattle.checking.specs.Check.{Derivation, terms_of, derivation_in, good, judge, check}
use Rattle.checking.specs.LineRead.{Stands, lines_from}
use Rattle.checking.specs.LinesRead.{results}

-- the step lines that a text is are these
pub record LinesAt (s : List ℕ) (ys : List Line) : Type 0 where
  pub layouts : List StepLayout
  pub lines : lines_from s ≡ some layouts
  pub results : read_results layouts ≡ some ys

-- of `follows`: the line with a term as its result, on the term before it
pub record Follows (x : Step) (before after : List ℕ) (r : Bool) : Type 0 where
  pub exact : (t u : Term) (y : StepLayout) → IsRun before t → IsRun after u → Stands x y → r ≡ is_line semiring t (line_of y u)

-- no result has over 31 nodes
abbrev pub Small : List Line → Type 0
Small ys = all_small (results ys) ≡ true

-- of `leads`
pub record Leads (left right s : List ℕ) (r : Bool) : Type 0 where
  pub exact : (t u : Term) (ys : List Line) → IsRun left t → IsRun right u → LinesAt s ys → Small ys → r ≡ leads semiring t ys u

-- what is answered with any room
abbrev pub Gives : (ℕ → Answer (List ℕ)) → Result (Unit {0}) Refusal → Type 0
Gives f (Err e) = (room : ℕ) → f room ≡ refused (number_of e)
Gives f (Ok u) = (room : ℕ) → f room ≡ fitting room good

-- refusal 4, then those of the lines
abbrev pub judge_letters : Derivation → ℕ → Answer (List ℕ)
judge_letters d room = ◌>>=◌ (require 4 (few (flat_map letters (terms_of d)))) (λ _. judge semiring room d)

-- of `judge_terms`
pub record JudgesTerms (left right s : List ℕ) (r : Result (Unit {0}) Refusal) : Type 0 where
  pub exact : (t u : Term) (ys : List Line) → IsRun left t → IsRun right u → LinesAt s ys → Small ys
      → Gives (judge_letters (record { left = t; right = u; path = ys })) r

-- of `judge_lines`
pub record JudgesLines (left right s : List ℕ) (r : Result (Unit {0}) Refusal) : Type 0 where
  pub exact : (xs : List StepLayout) → lines_from s ≡ some xs
      → Gives (λ room. ◌>>=◌ (derivation_in (record { left = left; right = right; steps = xs })) (judge semiring room)) r

-- of `judge`
abbrev pub Judges : List ℕ → Result (Unit {0}) Refusal → Type 0
Judges s = Gives (check s)
