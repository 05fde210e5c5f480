-- A step line is read as `read_step` reads it: first what falls under refusal 1, then the term.
use Rattle.std.specs.Prelude.{ℕ, ◌≡◌, refl, List, ◌∷◌}
use Prim.Native.Char.{code}
use Rattle.std.proofs.Common.{arith, ◌∙◌}
use Rattle.std.proofs.Math.Option.{Option, none, some, bind}
use Rattle.terms.specs.Build.{read}
use Rattle.search.specs.Law.{Law}
use Rattle.text.specs.Bytes.{ascii, after, Split, up_to, pieces}
use Rattle.text.specs.TermText.{token, read_term}
use Rattle.text.specs.StepText.{read_law, read_direction, read_place, read_pieces, read_step}
use Rattle.checking.specs.Layout.{StepLayout, step_layout, read_result}
use Rattle.text.specs.Theory.AtLeast.{tested, free}
use Rattle.text.specs.Theory.UpTo.{cut_pieces, pieces_cut, some_piece, after_piece}

step_in : {A B C : Type 0} (o : Option A) (f : A → Option C) (g : A → Option B) (h : B → Option C) → ((x : A) → f x ≡ bind (g x) h)
    → bind o f ≡ bind (bind o g) h
unfolding bind
step_in none f g h e = refl
step_in (some x) f g h e = e x

module _ (ws : List Law) where
  -- the line, from its parts
  abbrev tail : Split → Split → Split → Option StepLayout
  tail n d p =
      bind (read_law ws n.front) λ law.
      bind (read_direction d.front) λ direction.
      bind (after (ascii "at=") p.front) λ at.
      bind (read_place at) λ place.
      bind (after (ascii "to=") p.rest) λ to.
      some (record { law = law; direction = direction; place = place; result = to })

  whole : (n d p : Split) (t : List ℕ) (ts : List (List ℕ)) → pieces (code " ") p.rest ≡ t ∷ ts
      → read_pieces ws (n.front ∷ d.front ∷ p.front ∷ t ∷ ts) ≡ bind (tail n d p) read_result
  unfolding read_pieces read_result read_term bind ascii
  whole n d p t ts e =
      step_in (read_law ws n.front) _ _ read_result λ law.
      step_in (read_direction d.front) _ _ read_result λ direction.
      step_in (after (ascii "at=") p.front) _ _ read_result λ at.
      step_in (read_place at) _ _ read_result λ place.
      after_piece (λ qs. bind (read token qs) (λ u. some (record { law = law; direction = direction; place = place; result = u }))) (ascii "to=") (code " ")
      (free (omega arith) (tested (code "*") _ tt)) p.rest t ts e
      ∙ step_in (after (ascii "to=") p.rest) _ (λ to. some (record { law = law; direction = direction; place = place; result = to })) read_result (λ to. refl)

  pub step_split : (bs : List ℕ) → read_step ws bs ≡ bind (step_layout ws bs) read_result
  unfolding read_step step_layout bind read_pieces
  step_split bs = first (up_to (code " ") bs) (pieces_cut (code " ") bs)
    where
      third : (n d : Split) (o : Option Split) → pieces (code " ") d.rest ≡ cut_pieces (code " ") d.rest o
          → read_pieces ws (n.front ∷ d.front ∷ pieces (code " ") d.rest) ≡ bind (bind o (λ p. tail n d p)) read_result
      third n d none e = rw e
      third n d (some p) e = let (t, ts, i) = some_piece (code " ") p.rest in rw (e, i) (whole n d p t ts i)

      second : (n : Split) (o : Option Split) → pieces (code " ") n.rest ≡ cut_pieces (code " ") n.rest o
          → read_pieces ws (n.front ∷ pieces (code " ") n.rest) ≡ bind (bind o (λ d. bind (up_to (code " ") d.rest) (λ p. tail n d p))) read_result
      second n none e = rw e
      second n (some d) e = rw e (third n d (up_to (code " ") d.rest) (pieces_cut (code " ") d.rest))

      first : (o : Option Split) → pieces (code " ") bs ≡ cut_pieces (code " ") bs o
          → read_pieces ws (pieces (code " ") bs) ≡ bind (bind o (λ n. bind (up_to (code " ") n.rest) (λ d. bind (up_to (code " ") d.rest) (λ p. tail n d p)))) read_result
      first none e = rw e
      first (some n) e = rw e (second n (up_to (code " ") n.rest) (pieces_cut (code " ") n.rest))
