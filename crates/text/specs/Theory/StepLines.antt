-- What the `step=` lines of an answer's text tell.
use Rattle.std.specs.Prelude.{ℕ, ◌≡◌, length}
use Prim.Native.Char.{code}
use Prim.Native.String.{String}
use Rattle.std.proofs.Common.{arith, ◌∙◌}
use Rattle.std.proofs.Math.Path.{refl, ap}
use Rattle.std.proofs.Math.Option.{some}
use mathlib.Core.List.{List, [], ◌∷◌, ◌++◌, map, flat_map, flatten}
use Rattle.terms.specs.Lists.{◌∈◌, here, there}
use Rattle.search.specs.Law.{Law, Name}
use Rattle.search.specs.Line.{Line}
use Rattle.search.specs.Search.{proved, unproved}
use Rattle.search.specs.Cut.{cut}
use Rattle.text.specs.Bytes.{ascii, number, after, parted}
use Rattle.text.specs.TermText.{Readable, write_term}
use Rattle.text.specs.Answer.{values, yes_no}
use Rattle.text.specs.Job.{Job}
use Rattle.text.specs.StepText.{law_name, step_value, names, read_step, read_steps}
use Rattle.text.specs.Proof.{proof}
use Rattle.text.specs.Find.{uses, outcome_lines, outcome_text}
use Rattle.text.specs.Theory.AtLeast.{Printable, tested, higher, parted_least}
use Rattle.text.specs.Theory.Numbers.{number_least}
use Rattle.text.specs.Theory.TermText.{write_term_least}
use Rattle.text.specs.Theory.StepText.{Told, name_least, step_value_printable, read_step_value}
use Rattle.text.specs.Theory.ProofText.{proof_printable}
use Rattle.text.specs.Theory.LineValues.{given, under, line_values, step_lines, no_lines, uses_printable, yes_no_printable, none_each, steps_each}

module _ (ws : List Law) (told : Told ws) (j : Job) where
  name_printable : (n : Name) → n ∈ names ws → Printable (law_name n)
  name_printable n i = higher (omega arith) (name_least ws told n i)

  -- the values of a proved answer under any key
  abbrev proved_values : String → List Line → ℕ → List (List ℕ)
  proved_values key xs e =
      under key "answer=" (ascii "proved")
      ++ (under key "left=" (write_term j.left)
      ++ (under key "right=" (write_term j.right)
      ++ (under key "steps=" (number (length xs))
      ++ (under key "expanded=" (number e)
      ++ (under key "uses=" (parted (code ",") (uses ws xs))
      ++ (flat_map (λ x. under key "step=" (step_value x)) xs
      ++ (under key "proof=" (proof ws j.left j.right xs)
      ++ given (after (ascii key) []))))))))

  outcome_values : (key : String) (xs : List Line) (e n : ℕ) → ((x : Line) → x ∈ xs → x.law ∈ names ws)
      → values key (outcome_text ws j (proved xs e n)) ≡ proved_values key xs e
  unfolding outcome_text outcome_lines flatten
  outcome_values key xs e n named =
      line_values key "answer=" (ascii "proved") _ tt (tested _ _ tt)
      (line_values key "left=" (write_term j.left) _ tt (write_term_least j.left)
      (line_values key "right=" (write_term j.right) _ tt (write_term_least j.right)
      (line_values key "steps=" (number (length xs)) _ tt (higher (omega arith) (number_least (length xs)))
      (line_values key "expanded=" (number e) _ tt (higher (omega arith) (number_least e))
      (line_values key "uses=" (parted (code ",") (uses ws xs)) _ tt
      (parted_least _ (code ",") (omega arith) (uses ws xs) (uses_printable ws name_printable xs))
      (step_lines key xs _ (λ x i. step_value_printable ws told x (named x i))
      (line_values key "proof=" (proof ws j.left j.right xs) [] tt
      (proof_printable ws j.left j.right xs (λ x i. name_printable x.law (named x i))) (no_lines key))))))))

  module _ (xs : List Line) (e n : ℕ) (named : (x : Line) → x ∈ xs → x.law ∈ names ws) where
    abbrev text : List ℕ
    text = outcome_text ws j (proved xs e n)

    pub proved_answer : values "answer=" text ≡ ascii "proved" ∷ []
    unfolding ascii after
    proved_answer = outcome_values "answer=" xs e n named ∙ rw (none_each xs)

    pub proved_left : values "left=" text ≡ write_term j.left ∷ []
    unfolding ascii after
    proved_left = outcome_values "left=" xs e n named ∙ rw (none_each xs)

    pub proved_right : values "right=" text ≡ write_term j.right ∷ []
    unfolding ascii after
    proved_right = outcome_values "right=" xs e n named ∙ rw (none_each xs)

    pub proved_steps : values "steps=" text ≡ number (length xs) ∷ []
    unfolding ascii after
    proved_steps = outcome_values "steps=" xs e n named ∙ rw (none_each xs)

    pub proved_expanded : values "expanded=" text ≡ number e ∷ []
    unfolding ascii after
    proved_expanded = outcome_values "expanded=" xs e n named ∙ rw (none_each xs)

    pub proved_cut : values "cut=" text ≡ []
    unfolding ascii after
    proved_cut = outcome_values "cut=" xs e n named ∙ rw (none_each xs)

    pub proved_path : values "step=" text ≡ map step_value xs
    unfolding ascii after
    proved_path = outcome_values "step=" xs e n named ∙ steps_each xs

  -- the values of a none under any key
  none_values : (key : String) (e n : ℕ) → values key (outcome_text ws j (unproved e n))
      ≡ under key "answer=" (ascii "none")
      ++ (under key "left=" (write_term j.left)
      ++ (under key "right=" (write_term j.right)
      ++ (under key "expanded=" (number e)
      ++ (under key "cut=" (yes_no (cut ws j.limits j.left))
      ++ given (after (ascii key) [])))))
  unfolding outcome_text outcome_lines flatten
  none_values key e n =
      line_values key "answer=" (ascii "none") _ tt (tested _ _ tt)
      (line_values key "left=" (write_term j.left) _ tt (write_term_least j.left)
      (line_values key "right=" (write_term j.right) _ tt (write_term_least j.right)
      (line_values key "expanded=" (number e) _ tt (higher (omega arith) (number_least e))
      (line_values key "cut=" (yes_no (cut ws j.limits j.left)) [] tt (yes_no_printable (cut ws j.limits j.left)) (no_lines key)))))

  module _ (e n : ℕ) where
    abbrev none_text : List ℕ
    none_text = outcome_text ws j (unproved e n)

    pub none_answer : values "answer=" none_text ≡ ascii "none" ∷ []
    unfolding ascii after
    none_answer = none_values "answer=" e n

    pub none_left : values "left=" none_text ≡ write_term j.left ∷ []
    unfolding ascii after
    none_left = none_values "left=" e n

    pub none_right : values "right=" none_text ≡ write_term j.right ∷ []
    unfolding ascii after
    none_right = none_values "right=" e n

    pub none_expanded : values "expanded=" none_text ≡ number e ∷ []
    unfolding ascii after
    none_expanded = none_values "expanded=" e n

    pub none_cut : values "cut=" none_text ≡ yes_no (cut ws j.limits j.left) ∷ []
    unfolding ascii after
    none_cut = none_values "cut=" e n

  pub outcome_steps : (xs : List Line) (e n : ℕ) → ((x : Line) → x ∈ xs → x.law ∈ names ws × Readable x.result)
      → read_steps ws (outcome_text ws j (proved xs e n)) ≡ map some xs
  unfolding read_steps
  outcome_steps xs e n ok =
      ap (map (read_step ws)) (proved_path xs e n (λ x i. (ok x i).0)) ∙ each xs (λ x i. read_step_value ws told x (ok x i).0 (ok x i).1)
    where
      each : (ys : List Line) → ((x : Line) → x ∈ ys → read_step ws (step_value x) ≡ some x) → map (read_step ws) (map step_value ys) ≡ map some ys
      each [] h = refl
      each (y ∷ ys) h = rw (h y (here refl), each ys (λ x i. h x (there i)))
