-- Lines one after the other: there is one where the text goes on, and what the rest leads to the whole leads to.
use Rattle.std.proofs.Common.{◌≡◌, ℕ, ◌<◌, ◌≤◌, Bool, true, false, ◌&&◌, leb, List, [], ◌∷◌, length, refl, sym, ap, ◌∙◌, arith}
use borrow.Author.Tests.{leb-true}
use Rattle.std.proofs.Math.Option.{none, some, none-ne-some}
use Rattle.terms.specs.Term.{Term, size}
use Rattle.terms.specs.Promises.{Equals}
use Rattle.terms.specs.Theory.Held.{size_of}
use Rattle.search.specs.Law.{semiring}
use Rattle.search.specs.Line.{Line}
use Rattle.search.specs.Chain.{any_line, leads}
use Rattle.text.specs.Bytes.{ascii, after, parted, pieces}
use Rattle.text.specs.TermText.{read_term}
use Rattle.text.specs.FindJob.{every, all_small}
use Rattle.text.specs.Theory.Keyed.{some_then, end_only}
use Rattle.text.specs.Theory.Pieces.{parted_pieces}
use Rattle.checking.specs.declared.line.Step.{Step}
use Rattle.checking.specs.Layout.{StepLayout, step_layout, step_lines, line_of, read_result, read_results}
use Rattle.checking.specs.LineRead.{line_at, LineAt}
use Rattle.checking.specs.LinesRead.{ReadsTerm, results}
use Rattle.checking.specs.Judged.{LinesAt, Follows, Small, Leads}
use Rattle.checking.proofs.StepLines.{no_lines, none_left, line_then}

-- whether there is a line

no_result : (xs : List StepLayout) → read_results xs ≡ some [] → xs ≡ []
unfolding read_results
no_result [] e = refl
no_result (x ∷ xs) e =
    some_then (read_result x) _ e λ y f e.
    some_then (read_results xs) _ e λ ys g e.
    let z : y ∷ ys ≡ [] = cc in
    absurd (omega (arith, ap length z))

no_step_line : (ps : List (List ℕ)) → step_lines semiring ps ≡ some [] → parted 10 ps ≡ []
unfolding step_lines parted
no_step_line [] e = absurd (none-ne-some _ e)
no_step_line (p ∷ []) e = (end_only [] p e).0
no_step_line (p ∷ q ∷ qs) e =
    some_then (after (ascii "step=") p) _ e λ v key e.
    some_then (step_layout semiring v) _ e λ w laid e.
    some_then (step_lines semiring (q ∷ qs)) _ e λ us more e.
    let z : w ∷ us ≡ [] = cc in
    absurd (omega (arith, ap length z))

none_read : (xs : List StepLayout) (ys : List Line) → xs ≡ [] → read_results xs ≡ some ys → ys ≡ []
unfolding read_results
none_read xs ys e f = let g : some [] ≡ some ys = rw e at f in cc

-- no text has none
pub none_there : {s : List ℕ} {ys : List Line} → LinesAt s ys → length s ≡ 0 → ys ≡ []
none_there {s} {ys} L h =
    let e : some L.layouts ≡ some [] = sym L.lines ∙ no_lines s h in
    none_read L.layouts ys (cc) L.results

not_none : {s : List ℕ} → LinesAt s [] → 0 < length s → ⊥
not_none {s} L h =
    let none-laid = no_result L.layouts L.results in
    let lines : step_lines semiring (pieces 10 s) ≡ some [] = L.lines ∙ ap some none-laid in
    let nothing : s ≡ [] = sym (parted_pieces 10 s) ∙ no_step_line (pieces 10 s) lines in
    omega (arith, ap length nothing)

-- another text has one
pub some_there : {s : List ℕ} {ys : List Line} → LinesAt s ys → 0 < length s → any_line ys ≡ true
unfolding any_line
some_there {s} {ys} = go ys
  where
    go : (ys : List Line) → LinesAt s ys → 0 < length s → any_line ys ≡ true
    go [] L h = absurd (not_none L h)
    go (y ∷ ys) L h = refl

-- the first line, and the others

first_of : (b c : Bool) → b && c ≡ true → b ≡ true
first_of true c e = refl
first_of false c e = e

second_of : (b c : Bool) → b && c ≡ true → c ≡ true
second_of true c e = e
second_of false true e = refl
second_of false false e = e

module _ (y : Line) (ys : List Line) (small : Small (y ∷ ys)) where
  tests : leb (size y.result) 31 && all_small (results ys) ≡ true
  unfolding every
  tests = small

  small_first : size y.result ≤ 31
  small_first = leb-true (size y.result) 31 (first_of (leb (size y.result) 31) (all_small (results ys)) tests)

  small_rest : Small ys
  small_rest = second_of (leb (size y.result) 31) (all_small (results ys)) tests

first_read : {P : Type 0} (x : StepLayout) (xs : List StepLayout) (ys : List Line) → read_results (x ∷ xs) ≡ some ys
    → ((t : Term) (zs : List Line) → read_term x.result ≡ some t → read_results xs ≡ some zs → line_of x t ∷ zs ≡ ys → P) → P
unfolding read_results read_result
first_read x xs ys e h =
    some_then (read_result x) _ e λ y f e.
    some_then (read_term x.result) _ f λ t r f.
    some_then (read_results xs) _ e λ zs g e.
    let first : line_of x t ≡ y = cc in
    let all : y ∷ zs ≡ ys = cc in
    h t zs r g (ap (λ z. z ∷ zs) first ∙ all)

module _ {s rest : List ℕ} {x : Step} (l : LineAt s x rest) where
  first_then : {P : Type 0} {ys : List Line} → LinesAt s ys
      → ((t : Term) (zs : List Line) → read_term x.result.now ≡ some t → line_of l.layout t ∷ zs ≡ ys → LinesAt rest zs → P) → P
  first_then {ys = ys} L h =
      line_then l L.lines λ ws f w.
      first_read l.layout ws ys (ap read_results w ∙ L.results) λ t zs r g v.
      h t zs (ap read_term (sym l.stands.result) ∙ r) v (record { layouts = ws; lines = f; results = g })

-- what the loop keeps: what is left decides
pub record LeadsTo (left right s rest term : List ℕ) : Type 0 where
  pub decides : {r : Bool} → Leads term right rest r → Leads left right s r

module _ {left right s rest term : List ℕ} (L : LeadsTo left right s rest term) where
  -- behind the last line the term is compared
  pub leads_ends : {r : Bool} → line_at rest ≡ none → Equals term right r → Leads left right s r
  unfolding leads
  leads_ends h E =
      L.decides (record {
        exact = λ t u ys ht hu K small.
            let none = none_read K.layouts ys (none_left rest h K.lines) K.results in
            rw none (E.terms t u ht hu);
      })

  module _ {x : Step} {more : List ℕ} (l : LineAt rest x more) where
    pub foul_result : {r : Bool} → read_term x.result.now ≡ none → Leads left right s r
    foul_result h = L.decides (record { exact = λ t u ys ht hu K small. first_then l K λ v zs r w M. absurd (none-ne-some v (sym h ∙ r)) })

    module _ {run : List ℕ} (T : ReadsTerm x.result.now run) where
      -- the result is the term read
      same_term : (v : Term) → read_term x.result.now ≡ some v → T.term ≡ v
      same_term v r = let e : some T.term ≡ some v = sym T.read ∙ r in cc

      pub large_result : {r : Bool} → 31 < length run → Leads left right s r
      large_result h =
          L.decides (record {
            exact = λ t u ys ht hu K small.
                first_then l K λ v zs r w M.
                let e = small_first (line_of l.layout v) zs (rw (← w) at small) in
                absurd (omega (arith, e, ap size (same_term v r), size_of T.whole));
          })

      module _ {b : Bool} (F : Follows x term run b) where
        pub leads_wrong : b ≡ false → Leads left right s false
        unfolding leads
        leads_wrong e =
            L.decides (record {
              exact = λ t u ys ht hu K small.
                  first_then l K λ v zs r w M.
                  let f = sym (F.exact t T.term l.layout ht T.whole l.stands) ∙ e in
                  let g = same_term v r in
                  rw (← w, ← g, f);
            })

        pub leads_on : b ≡ true → LeadsTo left right s more run
        unfolding leads
        leads_on e =
            record {
              decides = λ l'.
                  L.decides (record {
                    exact = λ t u ys ht hu K small.
                        first_then l K λ v zs r w M.
                        let f = sym (F.exact t T.term l.layout ht T.whole l.stands) ∙ e in
                        let g = same_term v r in
                        rw (← w, ← g, f) (l'.exact T.term u zs T.whole hu M (small_rest (line_of l.layout v) zs (rw (← w) at small)));
                  });
            }

-- what the next line tells: it is no term, too large or wrong, leads on, or there is none
pub ruleset leads_told = (foul_result, large_result, leads_wrong, leads_on, leads_ends)
