-- CHECK answers texts without a c letter as by the former rule.
use Rattle.std.specs.Prelude.{ℕ, ◌≡◌, refl, length, leb}
use Rattle.std.proofs.Common.{⊎_elim}
use Rattle.std.proofs.Math.Option.{Option, none, some, bind as ◌then◌}
use mathlib.Core.List.{List, [], ◌∷◌, flat_map}
use Rattle.terms.specs.Lists.{◌∈◌, here, there, not-in-nil, cons-cases}
use Rattle.terms.specs.Term.{Term}
use Rattle.terms.specs.Letters.{letters}
use Rattle.words.specs.Theory.Permutations.{of_flatMap}
use Rattle.search.specs.Law.{semiring}
use Rattle.search.specs.Line.{Line}
use Rattle.text.specs.TermText.{read_term}
use Rattle.text.specs.Job.{few}
use Rattle.text.specs.FindJob.{all_small}
use Rattle.text.specs.Former.{former, Plain, PlainSide}
use Rattle.text.specs.Theory.Readable.{If_some}
use Rattle.text.specs.Theory.Accepted.{required_then}
use Rattle.text.specs.Theory.Former.{Same, then_equal, read_same, required_same, found_same, few_plain}
use Rattle.checking.specs.Layout.{StepLayout, check_layout, line_of, read_result, read_results}
use Rattle.checking.specs.Check.{Derivation, terms_of, accept_terms, derivation_in, read_check, check_with, check}
use Rattle.checking.specs.Former as by
use Rattle.checking.specs.Former.{CheckByPresent, CheckWithout, CheckUnchanged}
use Rattle.checking.specs.Theory.Read.{each_term}

pub check_by_present : CheckByPresent
unfolding check check_with by.check
check_by_present bs room = refl

-- the results of step lines

abbrev PlainSteps : List StepLayout → Type 0
PlainSteps xs = (x : StepLayout) → x ∈ xs → PlainSide x.result

results_same : (xs : List StepLayout) → PlainSteps xs → read_results xs ≡ by.read_results former xs
unfolding read_results read_result by.read_results
results_same [] free = refl
results_same (x ∷ xs) free = rw (read_same x.result (free x (here refl)), results_same xs (λ y i. free y (there i)))

abbrev PlainLines : List Line → Type 0
PlainLines ys = (y : Line) → y ∈ ys → Plain y.result

results_plain : (xs : List StepLayout) → PlainSteps xs → If_some PlainLines (read_results xs)
unfolding read_results read_result ◌then◌
results_plain [] free = λ y i. absurd (not-in-nil i)
results_plain (x ∷ xs) free = go (read_term x.result) refl (read_results xs) (results_plain xs (λ y i. free y (there i)))
  where
    go : (o : Option Term) → read_term x.result ≡ o → (p : Option (List Line)) → If_some PlainLines p
        → If_some PlainLines (◌then◌ (◌then◌ o (λ t. some (line_of x t))) (λ y. ◌then◌ p (λ ys. some (y ∷ ys))))
    go none e p h = tt
    go (some t) e none h = tt
    go (some t) e (some ys) h = λ y i. ⊎_elim (λ (f : y ≡ line_of x t). rw f (free x (here refl) t e)) (h y) (cons-cases i)

-- a derivation without c letters
abbrev PlainTerms : Derivation → Type 0
PlainTerms d = (t : Term) → t ∈ terms_of d → Plain t

terms_same : (d : Derivation) → PlainTerms d → Same PlainTerms (accept_terms d) (by.accept_terms former d)
unfolding accept_terms by.accept_terms
terms_same d plain = (
  rw (few_plain (flat_map letters (terms_of d)) (λ n i. let (t, j, k) = of_flatMap letters (terms_of d) i in plain t j n k)),
  required_then PlainTerms 3 (all_small (terms_of d)) _ λ _. required_then PlainTerms 4 (few (flat_map letters (terms_of d))) _ λ _. plain,
)

read_check_same : (bs : List ℕ) → CheckWithout bs → Same PlainTerms (read_check semiring bs) (by.read_check former bs)
unfolding read_check derivation_in by.read_check by.derivation_in
read_check_same bs without =
    required_same PlainTerms 1 (leb (length bs) 8192) _ _
    (found_same PlainTerms 1 (check_layout semiring bs) _ refl _ _ λ c laid.
    let (left, right, steps) = without c laid in
    found_same PlainTerms 2 (read_term c.left) _ (read_same c.left left) _ _ λ s read-s.
    found_same PlainTerms 2 (read_term c.right) _ (read_same c.right right) _ _ λ t read-t.
    found_same PlainTerms 2 (read_results c.steps) _ (results_same c.steps steps) _ _ λ xs reads.
    let d : Derivation = record { left = s; right = t; path = xs } in
    terms_same d (each_term d Plain (left s read-s) (right t read-t) (rw reads at (results_plain c.steps steps))))

pub check_unchanged : CheckUnchanged
unfolding check check_with by.check
check_unchanged bs room without = then_equal PlainTerms (read_check_same bs without) λ d _. refl
