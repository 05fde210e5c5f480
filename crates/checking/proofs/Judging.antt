-- A derivation judged: refusal by refusal, by what was read.
use Rattle.std.proofs.Common.{◌≡◌, ◌⊎◌, inl, inr, ℕ, ◌<◌, ◌≤◌, Bool, true, false, ◌&&◌, leb, List, ◌∷◌, length, refl, sym, ap, subst, ◌∙◌, arith, Result, Ok, Err}
use mathlib.Core.Bool.{and-false}
use mathlib.Core.List.{flat_map}
use borrow.Author.Tests.{le-leb, lt-leb}
use Rattle.std.proofs.Math.Option.{none, some}
use Rattle.terms.specs.Term.{Term, size}
use Rattle.terms.specs.Held.{IsRun}
use Rattle.terms.specs.Letters.{letters}
use Rattle.terms.specs.Theory.Held.{size_of}
use Rattle.search.specs.Law.{semiring}
use Rattle.search.specs.Line.{Line}
use Rattle.search.specs.Chain.{any_line, leads, is_chain}
use Rattle.text.specs.Answer.{Answer, refused, accepted, ◌>>=◌, require, or_refuse, fitting}
use Rattle.text.specs.TermText.{read_term}
use Rattle.text.specs.Job.{few}
use Rattle.text.specs.FindJob.{every, all_small}
use Rattle.text.specs.declared.refusal.Refusal.{Refusal}
use Rattle.text.specs.declared.refusal.Refusal.TheVariants as refusal
use Rattle.checking.specs.declared.lines.Written.{Written}
use Rattle.checking.specs.Layout.{StepLayout, CheckLayout, check_layout, read_results}
use Rattle.checking.specs.Check.{Derivation, terms_of, accept_terms, derivation_in, read_check, good, judge, check_with, check}
use Rattle.checking.specs.LinesRead.{ReadsTerm, LaidOut, results, ReadsResults, FewVariables}
use Rattle.checking.specs.Judged.{LinesAt, Small, Leads, Gives, judge_letters, JudgesTerms, JudgesLines, Judges}
use Rattle.checking.proofs.Leading.{none_there, some_there}

gives_same : (f g : ℕ → Answer (List ℕ)) → ((room : ℕ) → g room ≡ f room) → (r : Result (Unit {0}) Refusal) → Gives f r → Gives g r
gives_same f g e (Err n) h = λ room. e room ∙ h room
gives_same f g e (Ok u) h = λ room. e room ∙ h room

-- the whole text

module _ (s : List ℕ) where
  pub judge_long : 8192 < length s → Judges s (Err refusal.Malformed)
  unfolding check check_with read_check ◌>>=◌ require
  judge_long h room = rw (lt-leb (length s) 8192 h)

  module _ (short : length s ≤ 8192) where
    pub judge_malformed : check_layout semiring s ≡ none → Judges s (Err refusal.Malformed)
    unfolding check check_with read_check ◌>>=◌ require or_refuse
    judge_malformed h room = rw (le-leb (length s) 8192 short) (rw h)

    laid_out : (c : CheckLayout) → check_layout semiring s ≡ some c → (room : ℕ) → check s room ≡ ◌>>=◌ (derivation_in c) (judge semiring room)
    unfolding check check_with read_check ◌>>=◌ require or_refuse
    laid_out c e room = rw (le-leb (length s) 8192 short) (rw e)

    pub judge_laid : {w : Written} → LaidOut s w → (r : Result (Unit {0}) Refusal) → JudgesLines w.left.now w.right.now w.steps.now r → Judges s r
    judge_laid {w} o r j =
        let c : CheckLayout = record { left = w.left.now; right = w.right.now; steps = o.steps } in
        gives_same (λ room. ◌>>=◌ (derivation_in c) (judge semiring room)) (check s) (laid_out c o.lines) r (j.exact o.steps o.from_there)

-- terms that were read

module _ (d : Derivation) where
  too_large : all_small (terms_of d) ≡ false → (room : ℕ) → ◌>>=◌ (accept_terms d) (judge semiring room) ≡ refused 3
  unfolding accept_terms ◌>>=◌ require
  too_large h room = rw h

  small_enough : all_small (terms_of d) ≡ true → (room : ℕ) → ◌>>=◌ (accept_terms d) (judge semiring room) ≡ judge_letters d room
  unfolding accept_terms ◌>>=◌ require
  small_enough h room = rw h (go (few (flat_map letters (terms_of d))))
    where
      go : (b : Bool) → ◌>>=◌ (◌>>=◌ (require 4 b) (λ _. accepted d)) (judge semiring room) ≡ ◌>>=◌ (require 4 b) (λ _. judge semiring room d)
      go true = refl
      go false = refl

  first_large : 31 < size d.left → all_small (terms_of d) ≡ false
  unfolding every
  first_large h = rw (lt-leb (size d.left) 31 h)

  second_large : 31 < size d.right → all_small (terms_of d) ≡ false
  unfolding every
  second_large h = rw (lt-leb (size d.right) 31 h) (and-false (leb (size d.left) 31))

  others_large : all_small (results d.path) ≡ false → all_small (terms_of d) ≡ false
  unfolding every
  others_large h = rw h (ap (λ b. leb (size d.left) 31 && b) (and-false (leb (size d.right) 31)) ∙ and-false (leb (size d.left) 31))

  all_are_small : size d.left ≤ 31 → size d.right ≤ 31 → Small d.path → all_small (terms_of d) ≡ true
  unfolding every
  all_are_small l r h = rw (le-leb (size d.left) 31 l, le-leb (size d.right) 31 r, h)

-- a text that is well formed

-- what is answered of the lines
abbrev answer_of : (left right : List ℕ) → List StepLayout → ℕ → Answer (List ℕ)
answer_of left right xs room = ◌>>=◌ (derivation_in (record { left = left; right = right; steps = xs })) (judge semiring room)

pub foul_left : (left right s : List ℕ) → read_term left ≡ none → JudgesLines left right s (Err refusal.NoTerm)
unfolding derivation_in ◌>>=◌ or_refuse
foul_left left right s h = record { exact = λ xs e room. rw h }

pub foul_right : {left first : List ℕ} (right s : List ℕ) → ReadsTerm left first → read_term right ≡ none → JudgesLines left right s (Err refusal.NoTerm)
unfolding derivation_in ◌>>=◌ or_refuse
foul_right right s a h = record { exact = λ xs e room. rw a.read (rw h) }

module _ {left right first second : List ℕ} (a : ReadsTerm left first) (b : ReadsTerm right second) where
  none_read : (xs : List StepLayout) → read_results xs ≡ none → Gives (answer_of left right xs) (Err refusal.NoTerm)
  unfolding derivation_in ◌>>=◌ or_refuse
  none_read xs h room = rw a.read (rw b.read (rw h))

  abbrev derived : List Line → Derivation
  derived ys = record { left = a.term; right = b.term; path = ys }

  module _ (xs : List StepLayout) (ys : List Line) (f : read_results xs ≡ some ys) where
    all_read : derivation_in (record { left = left; right = right; steps = xs }) ≡ accept_terms (derived ys)
    unfolding derivation_in ◌>>=◌ or_refuse
    all_read = rw a.read (rw b.read (rw f))

    large : all_small (terms_of (derived ys)) ≡ false → Gives (answer_of left right xs) (Err refusal.TooLarge)
    large e room = ap (λ x. ◌>>=◌ x (judge semiring room)) all_read ∙ too_large (derived ys) e room

    small : all_small (terms_of (derived ys)) ≡ true → (r : Result (Unit {0}) Refusal) → Gives (judge_letters (derived ys)) r → Gives (answer_of left right xs) r
    small e r h =
        gives_same (judge_letters (derived ys)) (answer_of left right xs)
        (λ room. ap (λ x. ◌>>=◌ x (judge semiring room)) all_read ∙ small_enough (derived ys) e room) r h

  results_foul : (xs : List StepLayout) (e : Refusal) → (e ≡ refusal.NoTerm → read_results xs ≡ none)
      → (e ≡ refusal.TooLarge → (ys : List Line) × (read_results xs ≡ some ys) × (all_small (results ys) ≡ false))
      → (e ≡ refusal.NoTerm) ⊎ (e ≡ refusal.TooLarge) → Gives (answer_of left right xs) (Err e)
  results_foul xs e foul big (inl g) = subst (λ n. Gives (answer_of left right xs) (Err n)) (sym g) (none_read xs (foul g))
  results_foul xs e foul big (inr g) =
      let (ys, h, k) = big g in
      subst (λ n. Gives (answer_of left right xs) (Err n)) (sym g) (large xs ys h (others_large (derived ys) k))

  pub results_refused : {s : List ℕ} {e : Refusal} → ReadsResults s (Err e) → JudgesLines left right s (Err e)
  results_refused {e = e} R =
      record {
        exact = λ xs f.
            let (foul, big, one) = R.exact xs f in
            results_foul xs e foul big one;
      }

  module _ {s : List ℕ} {u : Unit {0}} (R : ReadsResults s (Ok u)) where
    pub large_left : 31 < length first → JudgesLines left right s (Err refusal.TooLarge)
    large_left h =
        record {
          exact = λ xs f.
              let (ys, g, k) = R.exact xs f in
              large xs ys g (first_large (derived ys) (omega (arith, size_of a.whole)));
        }

    pub large_right : 31 < length second → JudgesLines left right s (Err refusal.TooLarge)
    large_right h =
        record {
          exact = λ xs f.
              let (ys, g, k) = R.exact xs f in
              large xs ys g (second_large (derived ys) (omega (arith, size_of b.whole)));
        }

    pub lines_judged : length first ≤ 31 → length second ≤ 31 → {r : Result (Unit {0}) Refusal} → JudgesTerms first second s r → JudgesLines left right s r
    lines_judged l m {r} j =
        record {
          exact = λ xs f.
              let (ys, g, k) = R.exact xs f in
              small xs ys g (all_are_small (derived ys) (omega (arith, size_of a.whole)) (omega (arith, size_of b.whole)) k) r
              (j.exact a.term b.term ys a.whole b.whole (record { layouts = xs; lines = f; results = g }) k);
        }

-- terms and lines that are small

module _ {s left right : List ℕ} {b : Bool} (F : FewVariables left right s b) where
  module _ (t u : Term) (ys : List Line) (ht : IsRun left t) (hu : IsRun right u) (L : LinesAt s ys) where
    counted : few (flat_map letters (t ∷ u ∷ results ys)) ≡ b
    counted = sym (F.exact L.layouts ys t u L.lines L.results ht hu)

  pub many_letters : b ≡ false → JudgesTerms left right s (Err refusal.TooManyVariables)
  unfolding ◌>>=◌ require
  many_letters h = record { exact = λ t u ys ht hu L small room. let e = counted t u ys ht hu L ∙ h in rw e }

  module _ (h : b ≡ true) where
    few_pass : (t u : Term) (ys : List Line) → IsRun left t → IsRun right u → LinesAt s ys → (room : ℕ)
        → judge_letters (record { left = t; right = u; path = ys }) room ≡ judge semiring room (record { left = t; right = u; path = ys })
    unfolding ◌>>=◌ require
    few_pass t u ys ht hu L room = let e = counted t u ys ht hu L ∙ h in rw e

    no_line : (d : Derivation) → any_line d.path ≡ false → (room : ℕ) → judge semiring room d ≡ refused 11
    unfolding judge ◌>>=◌ require
    no_line d e room = rw e

    of_lines : (d : Derivation) → any_line d.path ≡ true → (room : ℕ)
        → judge semiring room d ≡ ◌>>=◌ (require 12 (leads semiring d.left d.path d.right)) (λ _. fitting room good)
    unfolding judge ◌>>=◌ require is_chain
    of_lines d e room = rw e

    pub no_step : length s ≡ 0 → JudgesTerms left right s (Err refusal.NoSteps)
    unfolding any_line
    no_step k =
        record {
          exact = λ t u ys ht hu L small room.
              few_pass t u ys ht hu L room ∙ no_line (record { left = t; right = u; path = ys }) (ap any_line (none_there L k)) room;
        }

    module _ (k : 0 < length s) {p : Bool} (P : Leads left right s p) where
      led : (t u : Term) (ys : List Line) → IsRun left t → IsRun right u → LinesAt s ys → Small ys → (room : ℕ)
          → judge_letters (record { left = t; right = u; path = ys }) room ≡ ◌>>=◌ (require 12 p) (λ _. fitting room good)
      led t u ys ht hu L small room =
          few_pass t u ys ht hu L room
          ∙ of_lines (record { left = t; right = u; path = ys }) (some_there L k) room
          ∙ ap (λ x. ◌>>=◌ (require 12 x) (λ _. fitting room good)) (sym (P.exact t u ys ht hu L small))

      pub not_led : p ≡ false → JudgesTerms left right s (Err refusal.WrongSteps)
      unfolding ◌>>=◌ require
      not_led e =
          record { exact = λ t u ys ht hu L small room. led t u ys ht hu L small room ∙ ap (λ x. ◌>>=◌ (require 12 x) (λ _. fitting room good)) e }

      pub all_led : p ≡ true → {u : Unit {0}} → JudgesTerms left right s (Ok u)
      unfolding ◌>>=◌ require
      all_led e =
          record { exact = λ t u ys ht hu L small room. led t u ys ht hu L small room ∙ ap (λ x. ◌>>=◌ (require 12 x) (λ _. fitting room good)) e }
