-- The v letters of the results, gathered one line after the other.
use Rattle.std.proofs.Common.{◌≡◌, ℕ, leb, List, [], ◌∷◌, ◌++◌, length, take, length-take, sym, ap, ◌∙◌, append_assoc, arith, Some, None}
use Prim.Native.Nat.{compare}
use Rattle.std.specs.Prelude as answered
use Rattle.std.specs.Option as answered-option
use mathlib.Core.List.{flat_map, foldl-append}
use borrow.Author.Tests.{le-leb, lt-leb}
use Rattle.std.proofs.Math.Option.{none, some, bind as ◌then◌, none-ne-some}
use Rattle.terms.specs.Term.{Term}
use Rattle.terms.specs.Letters.{letters, rising, FIXED, those_below, variables}
use Rattle.terms.specs.Sort.{lost, insert_all}
use Rattle.terms.specs.Promises.{Fills, ListsVariables}
use Rattle.terms.specs.Theory.Insert.{insert_all_grows}
use Rattle.terms.specs.Theory.Letters.{below_append}
use Rattle.terms.proofs.Gathered.{gathered, variables_term, fills_front, fills_length}
use Rattle.search.specs.Line.{Line}
use Rattle.text.specs.TermText.{read_term}
use Rattle.text.specs.Theory.Keyed.{some_then}
use Rattle.checking.specs.declared.line.Step.{Step}
use Rattle.checking.specs.Layout.{StepLayout, line_of, read_result, read_results}
use Rattle.checking.specs.LineRead.{lines_from, line_at, LineAt}
use Rattle.checking.specs.LinesRead.{ReadsTerm, results, Variables}
use Rattle.checking.proofs.StepLines.{none_left, line_then}

-- the v letters of the results
abbrev result_variables : List Line → List ℕ
result_variables ys = variables (flat_map letters (results ys))

-- letters put among others
abbrev put : List ℕ → List ℕ → List ℕ
put = insert_all lost compare

put_parts : (ns xs ys : List ℕ) → put ns (xs ++ ys) ≡ put (put ns xs) ys
put_parts ns xs ys = foldl-append _ ns xs ys

-- there is room for the v letters of the results of the lines that a text is among the first `n` numbers, which are rising, or there is not
pub record FewMore (s names : List ℕ) (n : ℕ) (r : answered.Option ℕ) : Type 0 where
  pub exact : (xs : List StepLayout) (ys : List Line) → lines_from s ≡ some xs → read_results xs ≡ some ys
      → answered-option.is_some r ≡ leb (length (put (take n names) (result_variables ys))) (length names)

-- the result of the first line, and those of the others

results_then : {P : Type 0} (x : StepLayout) (xs : List StepLayout) {t : Term} {ys : List Line} → read_term x.result ≡ some t → read_results (x ∷ xs) ≡ some ys
    → ((zs : List Line) → read_results xs ≡ some zs → line_of x t ∷ zs ≡ ys → P) → P
unfolding read_results read_result ◌then◌
results_then x xs {t} {ys} r e h =
    let e : ◌then◌ (read_results xs) (λ zs. some (line_of x t ∷ zs)) ≡ some ys = rw r at e in
    some_then (read_results xs) _ e λ zs f k.
    let w : line_of x t ∷ zs ≡ ys = cc in
    h zs f w

no_result : (x : StepLayout) (xs : List StepLayout) → read_term x.result ≡ none → read_results (x ∷ xs) ≡ none
unfolding read_results read_result ◌then◌
no_result x xs r = rw r

first_variables : (x : StepLayout) (t : Term) (zs : List Line) → result_variables (line_of x t ∷ zs) ≡ variables (letters t) ++ result_variables zs
unfolding flat_map
first_variables x t zs = below_append FIXED (letters t) (flat_map letters (results zs))

-- the v letters of a line's result, then those of the others
module _ {s rest : List ℕ} {x : Step} (l : LineAt s x rest) {run : List ℕ} (t : ReadsTerm x.result.now run) (front : List ℕ) where
  variables_then : {P : Type 0} {xs : List StepLayout} {ys : List Line} → lines_from s ≡ some xs → read_results xs ≡ some ys
      → ((ws : List StepLayout) (zs : List Line) → lines_from rest ≡ some ws → read_results ws ≡ some zs
      → put front (result_variables ys) ≡ put (gathered FIXED front run) (result_variables zs) → P) → P
  variables_then e f h =
      line_then l e λ ws k w.
      results_then l.layout ws (ap read_term l.stands.result ∙ t.read) (ap read_results w ∙ f) λ zs g v.
      h ws zs k g
      (rw (← v, first_variables l.layout t.term zs, variables_term t.whole) (put_parts front (variables (letters t.term)) (result_variables zs)))

-- one line after the other

module _ {s names : List ℕ} {count : ℕ} where
  no_more_variables : line_at s ≡ none → {k : ℕ} → FewMore s names count (Some k)
  unfolding read_results flat_map those_below
  no_more_variables h =
      record {
        exact = λ xs ys e f.
            let w = none_left s h e in
            let g : some [] ≡ some ys = rw w at f in
            let v : [] ≡ ys = cc in
            rw (← v) (sym (le-leb (length (take count names)) (length names) (omega (arith, length-take count names))));
      }

  module _ {rest : List ℕ} {x : Step} (l : LineAt s x rest) where
    few_foul : {r : answered.Option ℕ} → read_term x.result.now ≡ none → FewMore s names count r
    few_foul h =
        record {
          exact = λ xs ys e f.
              line_then l e λ ws k w.
              absurd (none-ne-some ys (sym (no_result l.layout ws (ap read_term l.stands.result ∙ h)) ∙ ap read_results w ∙ f));
        }

    module _ {run : List ℕ} (t : ReadsTerm x.result.now run) where
      too_many : (names' : List ℕ) → Fills (gathered FIXED (take count names) run) names None names' → FewMore s names count None
      too_many names' g =
          record {
            exact = λ xs ys e f.
                variables_then l t (take count names) e f λ ws zs k h w.
                let there = gathered FIXED (take count names) run in
                rw w (sym (lt-leb (length (put there (result_variables zs))) (length names) (omega (arith, g.0, insert_all_grows lost compare there (result_variables zs)))));
          }

      more_variables : {names' : List ℕ} {k : ℕ} → Fills (gathered FIXED (take count names) run) names (Some k) names' → {r : answered.Option ℕ}
          → FewMore rest names' k r → FewMore s names count r
      more_variables {names'} {k} g F =
          record {
            exact = λ xs ys e f.
                variables_then l t (take count names) e f λ ws zs d h w.
                let there = gathered FIXED (take count names) run in
                rw (w, ← (fills_front there names names' g), ← (fills_length there names names' g)) (F.exact ws zs d h);
          }

-- both sides first

side_variables : (t u : Term) (ys : List Line)
    → rising (variables (flat_map letters (t ∷ u ∷ results ys))) ≡ put (rising (variables (letters t ++ letters u))) (result_variables ys)
unfolding rising flat_map
side_variables t u ys =
    let others = flat_map letters (results ys) in
    rw (← (append_assoc (letters t) (letters u) others), below_append FIXED (letters t ++ letters u) others)
    (put_parts [] (variables (letters t ++ letters u)) (result_variables ys))

-- what the loop keeps: what is left decides
pub record VariablesTo (left right s : List ℕ) (room : ℕ) (rest names : List ℕ) (count : ℕ) : Type 0 where
  pub decides : {r : answered.Option ℕ} → FewMore rest names count r → Variables left right s room r

module _ {left right s names names' : List ℕ} where
  pub sides_too_many : ListsVariables left right names None names' → Variables left right s (length names) None
  sides_too_many h =
      record {
        exact = λ xs ys t u a b v w.
            let l = rising (variables (letters t ++ letters u)) in
            rw (side_variables t u ys)
            (sym (lt-leb (length (put l (result_variables ys))) (length names) (omega (arith, (h.terms t u v w).0, insert_all_grows lost compare l (result_variables ys)))));
      }

  pub sides_few : {n : ℕ} → ListsVariables left right names (Some n) names' → VariablesTo left right s (length names) s names' n
  sides_few h =
      record {
        decides = λ F.
            record {
              exact = λ xs ys t u a b v w.
                  let g = h.terms t u v w in
                  let l = rising (variables (letters t ++ letters u)) in
                  rw (side_variables t u ys, ← (fills_front l names names' g), ← (fills_length l names names' g)) (F.exact xs ys a b);
            };
      }

module _ {left right s : List ℕ} {room : ℕ} {rest names : List ℕ} {count : ℕ} (L : VariablesTo left right s room rest names count) where
  pub all_gathered : line_at rest ≡ none → Variables left right s room (Some count)
  all_gathered h = L.decides (no_more_variables h)

  module _ {x : Step} {more : List ℕ} (l : LineAt rest x more) where
    pub foul_result : read_term x.result.now ≡ none → Variables left right s room None
    foul_result h = L.decides (few_foul l h)

    module _ {run : List ℕ} (t : ReadsTerm x.result.now run) where
      pub no_room : (names' : List ℕ) → Fills (gathered FIXED (take count names) run) names None names' → Variables left right s room None
      no_room names' g = L.decides (too_many l t names' g)

      pub gathered_on : {names' : List ℕ} {k : ℕ} → Fills (gathered FIXED (take count names) run) names (Some k) names' → VariablesTo left right s room more names' k
      gathered_on g = record { decides = λ F. L.decides (more_variables l t g F) }
