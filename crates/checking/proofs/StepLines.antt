-- Step lines, and the two lines before them.
use Rattle.std.proofs.Common.{◌≡◌, ℕ, Bool, true, false, eqb, List, [], ◌∷◌, length, refl, sym, ap, ◌∙◌, arith}
use mathlib.Core.Bool.{true≢false}
use Rattle.std.proofs.Math.Option.{Option, none, some, bind as ◌then◌, none-ne-some}
use Rattle.terms.proofs.Spelled.{some_of}
use Rattle.terms.specs.Numbers.{is_some}
use Rattle.terms.specs.Theory.Reflects.{Reflects, eqb_reflects}
use Rattle.search.specs.Law.{semiring}
use Rattle.text.specs.Bytes.{ascii, end, pieces}
use Rattle.text.specs.Reading.{Valued, Unkeyed}
use Rattle.text.specs.Theory.Keyed.{some_then}
use Rattle.checking.specs.declared.line.Step.{Step}
use Rattle.checking.specs.declared.lines.Written.{Written}
use Rattle.checking.specs.Layout.{StepLayout, step_lines, check_layout}
use Rattle.checking.specs.LineRead.{lines_from, line_at, LineAt}
use Rattle.checking.specs.LinesRead.{LaidOut}
use Rattle.checking.proofs.LineStarts.{lines_malformed, line_lines}

-- no text is no lines
pub no_lines : (s : List ℕ) → length s ≡ 0 → lines_from s ≡ some []
unfolding step_lines pieces end
no_lines [] h = refl
no_lines (b ∷ s) h = absurd (omega (arith, h))

-- where no line begins a text that is lines, there are none
pub none_left : (s : List ℕ) {xs : List StepLayout} → line_at s ≡ none → lines_from s ≡ some xs → xs ≡ []
none_left s {xs} h e = go (eqb (length s) 0) (eqb_reflects (length s) 0)
  where
    go : (t : Bool) → Reflects (length s ≡ 0) t → xs ≡ []
    go true f = let k = no_lines s f in cc
    go false f = absurd (none-ne-some xs (sym (lines_malformed s h (omega (arith, f))) ∙ e))

-- and it is no lines, if there is something
pub ended : (s : List ℕ) → line_at s ≡ none → eqb (length s) 0 ≡ is_some (lines_from s)
unfolding is_some
ended s h = go (eqb (length s) 0) (eqb_reflects (length s) 0)
  where
    go : (t : Bool) → Reflects (length s ≡ 0) t → t ≡ is_some (lines_from s)
    go true f = rw (no_lines s f)
    go false f = rw (lines_malformed s h (omega (arith, f)))

-- one line more
module _ {s rest : List ℕ} {x : Step} (l : LineAt s x rest) where
  pub formed_on : is_some (lines_from s) ≡ is_some (lines_from rest)
  unfolding is_some ◌then◌
  formed_on = ap is_some (line_lines l) ∙ go (lines_from rest)
    where
      go : (o : Option (List StepLayout)) → is_some (◌then◌ o (λ ys. some (l.layout ∷ ys))) ≡ is_some o
      go none = refl
      go (some ys) = refl

  pub line_then : {P : Type 0} {xs : List StepLayout} → lines_from s ≡ some xs
      → ((ys : List StepLayout) → lines_from rest ≡ some ys → l.layout ∷ ys ≡ xs → P) → P
  line_then {xs = xs} e h =
      some_then (lines_from rest) _ (sym (line_lines l) ∙ e) λ ys f k.
      let w : l.layout ∷ ys ≡ xs = cc in
      h ys f w

-- the sides' lines, then the steps

is_nothing : {A : Type 0} (o : Option A) → is_some o ≡ false → o ≡ none
unfolding is_some
is_nothing none e = refl
is_nothing (some x) e = absurd (true≢false e)

module _ (s : List ℕ) where
  pub no_left : Unkeyed s (ascii "left=") → check_layout semiring s ≡ none
  unfolding check_layout ◌then◌
  no_left h = rw (h "left=" refl)

  module _ {left rest : List ℕ} (l : Valued s (ascii "left=") left rest) where
    pub no_right : Unkeyed rest (ascii "right=") → check_layout semiring s ≡ none
    unfolding check_layout ◌then◌
    no_right h = rw (l.parts "left=" refl, h "right=" refl)

    module _ {right steps : List ℕ} (r : Valued rest (ascii "right=") right steps) where
      pub no_steps : is_some (lines_from steps) ≡ false → check_layout semiring s ≡ none
      unfolding check_layout ◌then◌
      no_steps h = rw (l.parts "left=" refl, r.parts "right=" refl, is_nothing (lines_from steps) h)

      module _ (w : Written) (a : w.left.now ≡ left) (b : w.right.now ≡ right) (c : w.steps.now ≡ steps) where
        with_steps : (xs : List StepLayout) → lines_from steps ≡ some xs → LaidOut s w
        unfolding check_layout ◌then◌
        with_steps xs e =
            record {
              left_within = omega (arith, ap length a, l.shorter);
              right_within = omega (arith, ap length b, l.shorter, r.shorter);
              steps_within = omega (arith, ap length c, l.shorter, r.shorter);
              steps = xs;
              from_there = rw c e;
              lines = rw (a, b, l.parts "left=" refl, r.parts "right=" refl, e);
            }

        pub laid_out : is_some (lines_from steps) ≡ true → LaidOut s w
        laid_out h = let (xs, e) = some_of (lines_from steps) h in with_steps xs e
