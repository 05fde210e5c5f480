-- Step lines, one after the other.
use Rattle.std.proofs.Common.{◌≡◌, ℕ, ◌<◌, Bool, true, false, eqb, List, [], ◌∷◌, ◌++◌, length, refl, sym, ap, ◌∙◌, append_assoc, arith}
use Rattle.std.proofs.Math.Option.{Option, none, some, bind, none-ne-some}
use Rattle.terms.specs.Theory.Reflects.{Reflects, eqb_reflects}
use Rattle.search.specs.Law.{Law, semiring}
use Rattle.text.specs.Bytes.{ascii, after, end, Split, up_to, line, pieces}
use Rattle.text.specs.Layout.{keyed}
use Rattle.text.specs.Reading.{Valued, Unkeyed}
use Rattle.text.specs.Theory.AtLeast.{tested, free}
use Rattle.text.specs.Theory.Pieces.{pieces_behind}
use Rattle.text.specs.Theory.Keyed.{some_then, after_only, after_key, up_to_parts}
use Rattle.text.specs.Theory.UpTo.{cut_pieces, pieces_cut, some_piece}
use Rattle.checking.specs.declared.line.Step.{Step}
use Rattle.checking.specs.Layout.{StepLayout, step_layout, step_lines}
use Rattle.checking.specs.LineRead.{StepAt, lines_from, line_at, LineAt}

-- a text with the byte in it is cut
up_to_some : (s : ℕ) (v rest : List ℕ) → up_to s (v ++ (s ∷ rest)) ≡ none → ⊥
unfolding up_to
up_to_some s [] rest = go (eqb s s) (eqb_reflects s s)
  where
    go : (t : Bool) → Reflects (s ≡ s) t
        → ◌≡◌ {A = Option Split} (elim t [ true ↦ some (record { front = []; rest = rest }) | false ↦ elim (up_to s rest) [ none ↦ none | some c ↦ some (record { front = s ∷ c.front; rest = c.rest }) ] ]) none → ⊥
    go true h e = none-ne-some _ (sym e)
    go false h e = h refl
up_to_some s (b ∷ v) rest = go (eqb b s) (up_to s (v ++ (s ∷ rest))) (up_to_some s v rest)
  where
    go : (t : Bool) (o : Option Split) → (o ≡ none → ⊥)
        → ◌≡◌ {A = Option Split} (elim t [ true ↦ some (record { front = []; rest = v ++ (s ∷ rest) }) | false ↦ elim o [ none ↦ none | some c ↦ some (record { front = b ∷ c.front; rest = c.rest }) ] ]) none → ⊥
    go true o h e = none-ne-some _ (sym e)
    go false none h e = h refl
    go false (some c) h e = none-ne-some _ (sym e)

ends : (cs : List ℕ) → 0 < length cs → end {A = List StepLayout} [] cs ≡ none
unfolding end
ends [] h = absurd (omega arith)
ends (b ∷ cs) h = refl

module _ (ws : List Law) where
  first_line : (p q : List ℕ) (qs : List (List ℕ)) (v : List ℕ) → after (ascii "step=") p ≡ some v
      → step_lines ws (p ∷ q ∷ qs) ≡ bind (step_layout ws v) (λ x. bind (step_lines ws (q ∷ qs)) (λ xs. some (x ∷ xs)))
  unfolding step_lines bind
  first_line p q qs v e = rw e

  -- a line with its key is the first one, and the others follow
  pub lines_next : (bs : List ℕ) {c : Split} → keyed "step=" bs ≡ some c
      → step_lines ws (pieces 10 bs) ≡ bind (step_layout ws c.front) (λ x. bind (step_lines ws (pieces 10 c.rest)) (λ xs. some (x ∷ xs)))
  unfolding keyed line step_lines bind
  lines_next bs {c} e =
      some_then (after (ascii "step=") bs) line e λ v key cut.
      let whole : pieces 10 bs ≡ (ascii "step=" ++ c.front) ∷ pieces 10 c.rest =
      ap (pieces 10) (after_only (ascii "step=") bs key)
      ∙ pieces_behind 10 (ascii "step=") v c.front (pieces 10 c.rest) (free (omega arith) (tested 11 (ascii "step=") tt)) (pieces_cut 10 v ∙ ap (cut_pieces 10 v) cut) in
      let (q, qs, i) = some_piece 10 c.rest in
      rw (whole, i) (first_line (ascii "step=" ++ c.front) q qs c.front (after_key (ascii "step=") c.front))

  -- something that is no such line
  pub lines_none : (bs : List ℕ) → keyed "step=" bs ≡ none → 0 < length bs → step_lines ws (pieces 10 bs) ≡ none
  unfolding keyed line step_lines bind
  lines_none bs e some_byte = go (up_to 10 bs) refl
    where
      by_key : (c : Split) → up_to 10 bs ≡ some c → (q : List ℕ) (qs : List (List ℕ)) (o : Option (List ℕ)) → after (ascii "step=") c.front ≡ o
          → step_lines ws (c.front ∷ q ∷ qs) ≡ none
      by_key c cut q qs none f = rw f
      by_key c cut q qs (some v) f =
          let whole : bs ≡ ascii "step=" ++ (v ++ (10 ∷ c.rest)) =
          (up_to_parts 10 bs cut).parts ∙ ap (λ l. l ++ (10 ∷ c.rest)) (after_only (ascii "step=") c.front f) ∙ append_assoc (ascii "step=") v (10 ∷ c.rest) in
          let behind : after (ascii "step=") bs ≡ some (v ++ (10 ∷ c.rest)) = ap (after (ascii "step=")) whole ∙ after_key (ascii "step=") (v ++ (10 ∷ c.rest)) in
          absurd (up_to_some 10 v c.rest (rw behind at e))

      go : (o : Option Split) → up_to 10 bs ≡ o → step_lines ws (pieces 10 bs) ≡ none
      go none cut = rw (pieces_cut 10 bs, cut) (ends bs some_byte)
      go (some c) cut =
          let (q, qs, i) = some_piece 10 c.rest in
          rw (pieces_cut 10 bs, cut, i) (by_key c cut q qs (after (ascii "step=") c.front) refl)

-- ---- what `step_line` answers

module _ (s : List ℕ) where
  pub no_line : Unkeyed s (ascii "step=") → line_at s ≡ none
  unfolding bind
  no_line e = rw (e "step=" refl)

  module _ {value rest : List ℕ} (v : Valued s (ascii "step=") value rest) where
    pub no_step : step_layout semiring value ≡ none → line_at s ≡ none
    unfolding bind
    no_step e = rw (v.parts "step=" refl, e)

    pub line_told : (x : Step) → StepAt value x → LineAt s x rest
    line_told x h =
        record {
          shorter = omega (arith, v.shorter, h.shorter);
          value = value;
          keyed = v.parts "step=" refl;
          layout = h.layout;
          read = h.read;
          stands = h.stands;
        }

-- ---- what it says of the lines that the text is

-- a malformed line, where there is something
pub lines_malformed : (s : List ℕ) → line_at s ≡ none → 0 < length s → lines_from s ≡ none
unfolding bind
lines_malformed s e more = go (keyed "step=" s) refl e
  where
    go : (o : Option Split) → keyed "step=" s ≡ o → bind o (λ c. step_layout semiring c.front) ≡ none → lines_from s ≡ none
    go none k f = lines_none semiring s k more
    go (some c) k f = lines_next semiring s k ∙ rw f

pub line_lines : {s rest : List ℕ} {x : Step} (A : LineAt s x rest) → lines_from s ≡ bind (lines_from rest) (λ ys. some (A.layout ∷ ys))
unfolding bind
line_lines {s} A = lines_next semiring s A.keyed ∙ rw A.read
