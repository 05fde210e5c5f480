-- A text passes refusals 1 to 4 exactly if it is a derivation in the form that FIND prints, short, small and with few v letters.
use Rattle.std.specs.Prelude.{ℕ, ◌≤◌, ◌≡◌, ◌↔◌, Bool, true, false, length, T, leb}
use Prim.Native.Char.{code}
use Rattle.std.proofs.Math.Path.{refl, ap}
use Rattle.std.proofs.Common.{sym, ◌∙◌, le→leb}
use Rattle.std.proofs.Math.Logic.{⊎_elim}
use Rattle.std.proofs.Math.Option.{Option, none, some, or_else, bind, bind-eq-some_iff, none-ne-some}
use mathlib.Core.List.{List, [], ◌∷◌, ◌++◌, flat_map, append_assoc}
use Rattle.std.proofs.Math.Dec.{leb→le}
use Rattle.terms.specs.Lists.{◌∈◌, here, there, not-in-nil, cons-cases, in_map, of_map}
use Rattle.terms.specs.Term.{Term, size}
use Rattle.terms.specs.Letters.{letters, rising, variables}
use Rattle.terms.specs.Theory.Reflects.{both}
use Rattle.search.specs.Law.{Law, Name}
use Rattle.search.specs.Line.{Line}
use Rattle.text.specs.Bytes.{ascii, after, end, up_to, parted, pieces}
use Rattle.text.specs.TermText.{Readable, write_term, read_term}
use Rattle.text.specs.Layout.{keyed}
use Rattle.text.specs.Answer.{Answer, accepted, ◌>>=◌, require, or_refuse, field}
use Rattle.text.specs.FindJob.{every, all_small}
use Rattle.text.specs.StepText.{names, which, read_law, read_direction, read_place, step_value}
use Rattle.text.specs.Find.{step}
use Rattle.checking.specs.Layout.{StepLayout, step_layout, step_lines, CheckLayout, check_layout, line_of, read_result, read_results}
use Rattle.checking.specs.Check.{Derivation, terms_of, accept_terms, derivation_in, read_check, derivation_text, Derives}
use Rattle.text.specs.Theory.AtLeast.{Printable}
use Rattle.text.specs.Theory.Pieces.{parted_pieces}
use Rattle.text.specs.Theory.TermText.{write_term_least, read_write}
use Rattle.text.specs.Theory.Readable.{read_writes}
use Rattle.text.specs.Theory.StepText.{Told, step_value_printable, read_step_value}
use Rattle.text.specs.Theory.Keyed.{some_then, after_only, after_key, end_only, keyed_parts, keyed_field}
use Rattle.text.specs.Theory.UpTo.{some_piece}
use Rattle.text.specs.Theory.StepRead.{read_step_only}
use Rattle.text.specs.Theory.LineValues.{line_first}
use Rattle.text.specs.Theory.Accepted.{If_accepted, required_then}
use Rattle.checking.specs.Theory.StepSplit.{step_split}

-- tests

pub test_true : (b : Bool) → T b → b ≡ true
test_true true t = refl
test_true false t = absurd t

pub all_small_each : (ts : List Term) → T (all_small ts) → (t : Term) → t ∈ ts → size t ≤ 31
unfolding every
all_small_each [] h t i = absurd (not-in-nil i)
all_small_each (u ∷ ts) h t i =
    let (first, rest) = both (leb (size u) 31) (all_small ts) h in
    ⊎_elim (λ (e : t ≡ u). rw e (leb→le (size u) 31 first)) (all_small_each ts rest t) (cons-cases i)

pub all_small_true : (ts : List Term) → ((t : Term) → t ∈ ts → size t ≤ 31) → all_small ts ≡ true
unfolding every
all_small_true [] h = refl
all_small_true (u ∷ ts) h = rw (test_true (leb (size u) 31) (le→leb (size u) 31 (h u (here refl))), all_small_true ts (λ t i. h t (there i)))

-- what is read is what FIND prints

term_read : (bs : List ℕ) {t : Term} → read_term bs ≡ some t → Readable t × (bs ≡ write_term t)
term_read bs e = rw e at (read_writes bs)

which_in : {A : Type 0} (text : A → List ℕ) (xs : List A) (bs : List ℕ) {x : A} → which text xs bs ≡ some x → x ∈ xs
unfolding which
which_in text [] bs e = absurd (none-ne-some _ e)
which_in {A} text (y ∷ ys) bs {x} e = go (bind (after (text y) bs) (end y)) refl e (which_in text ys bs)
  where
    go : (o : Option A) → bind (after (text y) bs) (end y) ≡ o → or_else o (which text ys bs) ≡ some x → (which text ys bs ≡ some x → x ∈ ys) → x ∈ y ∷ ys
    go none d e rest = there (rest e)
    go (some z) d e rest =
        let (v, f, g) = (bind-eq-some_iff (after (text y) bs) (end y)).0 d in
        let (nil, same) = end_only y v g in
        let found : x ≡ y = cc in
        here found

law_in : (ws : List Law) (bs : List ℕ) {n : Name} → read_law ws bs ≡ some n → n ∈ names ws
unfolding read_law
law_in ws bs e = which_in _ (names ws) bs e

-- what holds of both sides and of each result holds of all terms
pub each_term : (d : Derivation) (P : Term → Type 0) → P d.left → P d.right → ((x : Line) → x ∈ d.path → P x.result)
    → (t : Term) → t ∈ terms_of d → P t
each_term d P left right results t i =
    ⊎_elim (λ (e : t ≡ d.left). rw e left)
    (λ j. ⊎_elim (λ (e : t ≡ d.right). rw e right) (λ k. let (x, m, e) = of_map (λ (x : Line). x.result) d.path k in rw (← e) (results x m)) (cons-cases j))
    (cons-cases i)

-- one line of the text
regroup : (k v rest : List ℕ) → (k ++ v) ++ (10 ∷ rest) ≡ (k ++ (v ++ (10 ∷ []))) ++ rest
regroup k v rest = simp append_assoc

line_whole : (p v : List ℕ) (y : Line) (ps : List (List ℕ)) (ys : List Line) → p ≡ ascii "step=" ++ v → v ≡ step_value y → parted 10 ps ≡ flat_map step ys
    → p ++ (10 ∷ parted 10 ps) ≡ step y ++ flat_map step ys
unfolding step field
line_whole p v y ps ys e f g =
    ap (λ l. l ++ (10 ∷ parted 10 ps)) (e ∙ ap (λ l. ascii "step=" ++ l) f) ∙ ap (λ l. (ascii "step=" ++ step_value y) ++ (10 ∷ l)) g
    ∙ regroup (ascii "step=") (step_value y) (flat_map step ys)

module _ (ws : List Law) where
  layout_named : (bs : List ℕ) {x : StepLayout} → step_layout ws bs ≡ some x → x.law ∈ names ws
  unfolding step_layout
  layout_named bs {x} e =
      some_then (up_to (code " ") bs) _ e λ n _ e.
      some_then (up_to (code " ") n.rest) _ e λ d _ e.
      some_then (up_to (code " ") d.rest) _ e λ p _ e.
      some_then (read_law ws n.front) _ e λ law named e.
      some_then (read_direction d.front) _ e λ way _ e.
      some_then (after (ascii "at=") p.front) _ e λ at _ e.
      some_then (read_place at) _ e λ place _ e.
      some_then (after (ascii "to=") p.rest) _ e λ to _ e.
      let line : StepLayout = record { law = law; direction = way; place = place; result = to } in
      let whole : line ≡ x = cc in
      rw (← whole) (law_in ws n.front named)

  -- a line of the text, read
  abbrev Known : Line → Type 0
  Known x = x.law ∈ names ws × Readable x.result

  result_parts : (w : StepLayout) {x : Line} → read_result w ≡ some x → (x.law ≡ w.law) × Readable x.result
  unfolding read_result
  result_parts w {x} e =
      some_then (read_term w.result) _ e λ t f e.
      let whole : line_of w t ≡ x = cc in
      rw (← whole) (refl, (term_read w.result f).0)

  -- the step lines are those of the lines read
  record Stepped (ps : List (List ℕ)) (xs : List Line) : Type 0 where
    whole : parted 10 ps ≡ flat_map step xs
    good : (x : Line) → x ∈ xs → Known x

  steps_only : (ps : List (List ℕ)) {vs : List StepLayout} {xs : List Line} → step_lines ws ps ≡ some vs → read_results vs ≡ some xs → Stepped ps xs
  unfolding step_lines read_results parted flat_map
  steps_only [] e f = absurd (none-ne-some _ e)
  steps_only (p ∷ []) {vs} {xs} e f =
      let (nil, none_left) = end_only [] p e in
      let empty : xs ≡ [] = let g : read_results [] ≡ some xs = ap read_results none_left ∙ f in cc in
      rw (nil, empty) (record { whole = refl; good = λ x i. absurd (not-in-nil i) })
  steps_only (p ∷ q ∷ qs) {vs} {xs} e f =
      some_then (after (ascii "step=") p) _ e λ v key e.
      some_then (step_layout ws v) _ e λ w laid e.
      some_then (step_lines ws (q ∷ qs)) _ e λ us more e.
      let first : w ∷ us ≡ vs = cc in
      some_then (read_result w) _ (rw (← first) at f) λ y read g.
      some_then (read_results us) _ g λ ys reads g.
      let all : y ∷ ys ≡ xs = cc in
      let s = steps_only (q ∷ qs) more reads in
      let value : v ≡ step_value y = read_step_only ws v (step_split ws v ∙ (bind-eq-some_iff (step_layout ws v) read_result).1 (w, laid, read)) in
      rw (← all) (record {
        whole = line_whole p v y (q ∷ qs) ys (after_only (ascii "step=") p key) value s.whole;
        good = λ x i. ⊎_elim (λ (h : x ≡ y). rw h (let r = result_parts w read in (rw r.0 (layout_named v laid), r.1))) (s.good x) (cons-cases i);
      })

  -- 1 and 2 passed
  record Parsed (bs : List ℕ) (d : Derivation) : Type 0 where
    written : bs ≡ derivation_text d
    named : (x : Line) → x ∈ d.path → x.law ∈ names ws
    readable : (t : Term) → t ∈ terms_of d → Readable t

  parsed : (bs : List ℕ) (c : CheckLayout) (s t : Term) (xs : List Line) → check_layout ws bs ≡ some c → read_term c.left ≡ some s
      → read_term c.right ≡ some t → read_results c.steps ≡ some xs → Parsed bs (record { left = s; right = t; path = xs })
  unfolding check_layout derivation_text
  parsed bs c s t xs e fs ft fx =
      some_then (keyed "left=" bs) _ e λ l key-l e.
      some_then (keyed "right=" l.rest) _ e λ r key-r e.
      some_then (step_lines ws (pieces 10 r.rest)) _ e λ vs laid e.
      let whole : record { left = l.front; right = r.front; steps = vs } ≡ c = cc in
      let (read-s, text-s) = term_read l.front (rw (← whole) at fs) in
      let (read-t, text-t) = term_read r.front (rw (← whole) at ft) in
      let steps = steps_only (pieces 10 r.rest) laid (rw (← whole) at fx) in
      record {
        written =
            (keyed_parts "left=" bs key-l).parts
            ∙ ap (λ k. field "left=" k ++ l.rest) text-s
            ∙ ap (λ k. field "left=" (write_term s) ++ k)
            ((keyed_parts "right=" l.rest key-r).parts
            ∙ ap (λ k. field "right=" k ++ r.rest) text-t
            ∙ ap (λ k. field "right=" (write_term t) ++ k) (sym (parted_pieces 10 r.rest) ∙ steps.whole));
        named = λ x i. (steps.good x i).0;
        readable = each_term _ Readable read-s read-t (λ x i. (steps.good x i).1);
      }

  terms_accepted : (bs : List ℕ) (d : Derivation) → length bs ≤ 8192 → Parsed bs d → If_accepted (Derives ws bs) (accept_terms d)
  unfolding accept_terms
  terms_accepted bs d short p =
      required_then (Derives ws bs) 3 (all_small (terms_of d)) _ λ small.
      required_then (Derives ws bs) 4 (leb (length (rising (variables (flat_map letters (terms_of d))))) 6) _ λ few.
      record {
        written = p.written;
        short = short;
        named = p.named;
        readable = p.readable;
        small = all_small_each (terms_of d) small;
        few = leb→le (length (rising (variables (flat_map letters (terms_of d))))) 6 few;
      }

  or_then : {A B : Type 0} (P : B → Type 0) (n : ℕ) (o : Option A) (f : A → Answer B) → ((x : A) → o ≡ some x → If_accepted P (f x))
      → If_accepted P (◌>>=◌ (or_refuse n o) f)
  unfolding ◌>>=◌ or_refuse
  or_then P n none f h = tt
  or_then P n (some x) f h = h x refl

  read_derives : (bs : List ℕ) → If_accepted (Derives ws bs) (read_check ws bs)
  unfolding read_check derivation_in
  read_derives bs =
      required_then (Derives ws bs) 1 (leb (length bs) 8192) _ λ short.
      or_then (Derives ws bs) 1 (check_layout ws bs) _ λ c laid.
      or_then (Derives ws bs) 2 (read_term c.left) _ λ s read-s.
      or_then (Derives ws bs) 2 (read_term c.right) _ λ t read-t.
      or_then (Derives ws bs) 2 (read_results c.steps) _ λ xs reads.
      terms_accepted bs (record { left = s; right = t; path = xs }) (leb→le (length bs) 8192 short) (parsed bs c s t xs laid read-s read-t reads)

-- what FIND prints is read
module _ (ws : List Law) (told : Told ws) where
  first_line : (x : Line) (bs : List ℕ) → Printable (step_value x) → pieces 10 (step x ++ bs) ≡ (ascii "step=" ++ step_value x) ∷ pieces 10 bs
  unfolding step
  first_line x bs h = line_first "step=" (step_value x) bs tt h

  one_more : (p q : List ℕ) (qs : List (List ℕ)) (v : List ℕ) (w : StepLayout) (us : List StepLayout) → after (ascii "step=") p ≡ some v
      → step_layout ws v ≡ some w → step_lines ws (q ∷ qs) ≡ some us → step_lines ws (p ∷ q ∷ qs) ≡ some (w ∷ us)
  unfolding step_lines bind
  one_more p q qs v w us e f g = rw (e, f, g)

  one_more_result : (w : StepLayout) (x : Line) (us : List StepLayout) (xs : List Line) → read_result w ≡ some x → read_results us ≡ some xs
      → read_results (w ∷ us) ≡ some (x ∷ xs)
  unfolding read_results bind
  one_more_result w x us xs e f = rw (e, f)

  -- the step lines of a text
  record Laid (xs : List Line) : Type 0 where
    steps : List StepLayout
    lines : step_lines ws (pieces 10 (flat_map step xs)) ≡ some steps
    results : read_results steps ≡ some xs

  steps_laid : (xs : List Line) → ((x : Line) → x ∈ xs → x.law ∈ names ws) → ((x : Line) → x ∈ xs → Readable x.result) → Laid xs
  unfolding step_lines read_results flat_map pieces end
  steps_laid [] named readable = record { steps = []; lines = refl; results = refl }
  steps_laid (x ∷ xs) named readable =
      let rest = steps_laid xs (λ y i. named y (there i)) (λ y i. readable y (there i)) in
      let (q, qs, i) = some_piece 10 (flat_map step xs) in
      let (w, laid, read) = (bind-eq-some_iff (step_layout ws (step_value x)) read_result).0 (sym (step_split ws (step_value x)) ∙ read_step_value ws told x (named x (here refl)) (readable x (here refl))) in
      record {
        steps = w ∷ rest.steps;
        lines =
            ap (step_lines ws) (first_line x (flat_map step xs) (step_value_printable ws told x (named x (here refl))) ∙ ap (λ ps. (ascii "step=" ++ step_value x) ∷ ps) i)
            ∙ one_more (ascii "step=" ++ step_value x) q qs (step_value x) w rest.steps (after_key (ascii "step=") (step_value x)) laid (rw i at rest.lines);
        results = one_more_result w x rest.steps xs read rest.results;
      }

  layout_text : (d : Derivation) (l : Laid d.path) → check_layout ws (derivation_text d)
      ≡ some (record { left = write_term d.left; right = write_term d.right; steps = l.steps })
  unfolding check_layout derivation_text bind
  layout_text d l =
      rw (
        keyed_field "left=" (write_term d.left) (field "right=" (write_term d.right) ++ flat_map step d.path) (write_term_least d.left),
        keyed_field "right=" (write_term d.right) (flat_map step d.path) (write_term_least d.right),
        l.lines,
      )

  derives_read : (bs : List ℕ) (d : Derivation) → Derives ws bs d → read_check ws bs ≡ accepted d
  unfolding read_check derivation_in accept_terms require or_refuse ◌>>=◌
  derives_read bs d h =
      let l = steps_laid d.path h.named (λ x i. h.readable x.result (there (there (in_map (λ (x : Line). x.result) i)))) in
      rw (
        test_true (leb (length bs) 8192) (le→leb (length bs) 8192 h.short),
        h.written,
        layout_text d l,
        read_write d.left (h.readable d.left (here refl)),
        read_write d.right (h.readable d.right (there (here refl))),
        l.results,
        all_small_true (terms_of d) h.small,
        test_true (leb (length (rising (variables (flat_map letters (terms_of d))))) 6) (le→leb _ 6 h.few),
      )

  -- 1 to 4 are passed exactly by the texts that derive something
  pub read_check_exact : (bs : List ℕ) (d : Derivation) → (read_check ws bs ≡ accepted d) ↔ Derives ws bs d
  read_check_exact bs d = (λ e. rw e at (read_derives ws bs), derives_read bs d)
