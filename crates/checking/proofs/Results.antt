-- The results of step lines read one after the other: whether they are terms, and whether all are small.
use Rattle.std.proofs.Common.{◌≡◌, ◌⊎◌, ℕ, ◌<◌, ◌≤◌, Bool, true, false, ◌&&◌, leb, List, [], ◌∷◌, length, refl, sym, ap, subst, ◌∙◌, inl, inr, arith, Result, Ok, Err}
use mathlib.Core.Bool.{and-true, and-false, and_assoc}
use borrow.Author.Tests.{le-leb, lt-leb}
use Rattle.std.proofs.Math.Option.{none, some, bind as ◌then◌}
use Rattle.terms.specs.Term.{Term, size}
use Rattle.terms.specs.Theory.Held.{size_of}
use Rattle.search.specs.Line.{Line}
use Rattle.text.specs.TermText.{read_term}
use Rattle.text.specs.FindJob.{every, all_small}
use Rattle.text.specs.declared.refusal.Refusal.{Refusal}
use Rattle.text.specs.declared.refusal.Refusal.TheVariants.{NoTerm, TooLarge}
use Rattle.checking.specs.declared.line.Step.{Step}
use Rattle.checking.specs.Layout.{StepLayout, line_of, read_result, read_results}
use Rattle.checking.specs.LineRead.{lines_from, line_at, LineAt}
use Rattle.checking.specs.LinesRead.{ReadsTerm, results, ResultsRead, ReadsResults}
use Rattle.checking.proofs.StepLines.{none_left, line_then}

-- the results of lines, behind others that are terms: all of these are small, or one is large
abbrev Told : Bool → List StepLayout → Result (Unit {0}) Refusal → Type 0
Told small xs (Err e) =
    (e ≡ NoTerm → read_results xs ≡ none)
    × (e ≡ TooLarge → (ys : List Line) × (read_results xs ≡ some ys) × (small && all_small (results ys) ≡ false))
    × ((e ≡ NoTerm) ⊎ (e ≡ TooLarge))
Told small xs (Ok u) = (ys : List Line) × (read_results xs ≡ some ys) × (small && all_small (results ys) ≡ true)

-- one result more
module _ (small : Bool) (x : StepLayout) (xs : List StepLayout) where
  not_read : read_term x.result ≡ none → Told small (x ∷ xs) (Err NoTerm)
  unfolding read_results read_result ◌then◌
  not_read e = (λ f. rw e, λ f. absurd (cc), inl refl)

  module _ (t : Term) (e : read_term x.result ≡ some t) where
    one_none : read_results xs ≡ none → read_results (x ∷ xs) ≡ none
    unfolding read_results read_result ◌then◌
    one_none f = rw e (rw f)

    one_some : (ys : List Line) → read_results xs ≡ some ys → read_results (x ∷ xs) ≡ some (line_of x t ∷ ys)
    unfolding read_results read_result ◌then◌
    one_some ys f = rw e (rw f)

    sizes : (ys : List Line) (b : Bool) → (small && leb (size t) 31) && all_small (results ys) ≡ b → small && all_small (results (line_of x t ∷ ys)) ≡ b
    unfolding every
    sizes ys b f = sym (and_assoc small (leb (size t) 31) (all_small (results ys))) ∙ f

    one_more : (r : Result (Unit {0}) Refusal) → Told (small && leb (size t) 31) xs r → Told small (x ∷ xs) r
    one_more (Err f) (a, b, c) = (
      λ g. one_none (a g),
      λ g. let (ys, p, q) = b g in (line_of x t ∷ ys, one_some ys p, sizes ys false q),
      c,
    )
    one_more (Ok u) (ys, p, q) = (line_of x t ∷ ys, one_some ys p, sizes ys true q)

-- what was read of the lines passed: no refusal but that one is large
abbrev Large : Result (Unit {0}) Refusal → Type 0
Large (Ok u) = Unit {0}
Large (Err e) = e ≡ TooLarge

abbrev all_passed : Result (Unit {0}) Refusal → Bool
all_passed (Ok u) = true
all_passed (Err e) = false

nothing_more : (read : Result (Unit {0}) Refusal) → Large read → Told (all_passed read) [] read
unfolding read_results every
nothing_more (Ok u) h = ([], refl, refl)
nothing_more (Err e) h = (λ f. absurd (cc), λ f. ([], refl, refl), inr h)

-- what the loop keeps: what is left decides
pub record ReadTo (s rest : List ℕ) (read : Result (Unit {0}) Refusal) : Type 0 where
  pub large : Large read
  pub decides : (r : Result (Unit {0}) Refusal) → ((xs : List StepLayout) → lines_from rest ≡ some xs → Told (all_passed read) xs r) → ReadsResults s r

pub at_first : (s : List ℕ) → ReadTo s s (Ok tt)
at_first s = record { large = tt; decides = λ r f. record { exact = λ xs e. told r xs (f xs e) } }
  where
    told : (r : Result (Unit {0}) Refusal) (xs : List StepLayout) → Told true xs r → ResultsRead xs r
    told (Ok u) xs h = h
    told (Err e) xs h = h

module _ {s rest : List ℕ} {read : Result (Unit {0}) Refusal} (R : ReadTo s rest read) where
  pub all_read : line_at rest ≡ none → ReadsResults s read
  all_read h = R.decides read (λ xs e. rw (none_left rest h e) (nothing_more read R.large))

  module _ {x : Step} {more : List ℕ} (l : LineAt rest x more) where
    pub foul_result : read_term x.result.now ≡ none → ReadsResults s (Err NoTerm)
    foul_result h =
        R.decides (Err NoTerm) λ xs e.
        line_then l e λ ys f w.
        subst (λ zs. Told (all_passed read) zs (Err NoTerm)) w (not_read (all_passed read) l.layout ys (ap read_term l.stands.result ∙ h))

    module _ {run : List ℕ} (t : ReadsTerm x.result.now run) where
      read_on : (read' : Result (Unit {0}) Refusal) → Large read' → all_passed read' ≡ (all_passed read && leb (size t.term) 31) → ReadTo s more read'
      read_on read' h same =
          record {
            large = h;
            decides = λ r f.
                R.decides r λ xs e.
                line_then l e λ ys g w.
                subst (λ zs. Told (all_passed read) zs r) w
                (one_more (all_passed read) l.layout ys t.term (ap read_term l.stands.result ∙ t.read) r (subst (λ b. Told b ys r) same (f ys g)));
          }

      pub small_result : length run ≤ 31 → ReadTo s more read
      small_result h = read_on read R.large (rw (le-leb (size t.term) 31 (omega (arith, size_of t.whole))) (sym (and-true (all_passed read))))

      pub large_result : 31 < length run → ReadTo s more (Err TooLarge)
      large_result h = read_on (Err TooLarge) refl (rw (lt-leb (size t.term) 31 (omega (arith, size_of t.whole))) (sym (and-false (all_passed read))))
