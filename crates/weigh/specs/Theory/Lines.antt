-- What the lines of an answer's text of WEIGH tell.
use Rattle.std.specs.Prelude.{ℕ, ◌≡◌, Bool, length}
use Prim.Native.Char.{code}
use Prim.Native.String.{String}
use Rattle.std.proofs.Common.{arith, ◌∙◌}
use Rattle.std.proofs.Math.Path.{refl, ap}
use Rattle.std.proofs.Math.Option.{some}
use mathlib.Core.List.{List, [], ◌∷◌, ◌++◌, map, flat_map, flatten}
use Rattle.terms.specs.Lists.{◌∈◌, here, there}
use Rattle.search.specs.Law.{Law, Name}
use Rattle.search.specs.Line.{Line}
use Rattle.weigh.specs.Weigh.{weight, weights_of}
use Rattle.text.specs.Bytes.{ascii, number, after, parted}
use Rattle.text.specs.TermText.{Readable, write_term}
use Rattle.text.specs.Answer.{field, values, yes_no}
use Rattle.text.specs.StepText.{law_name, step_value, names, read_step, read_steps}
use Rattle.text.specs.Proof.{proof}
use Rattle.text.specs.Find.{step, uses}
use Rattle.text.specs.Theory.AtLeast.{Printable, tested, higher, parted_least}
use Rattle.text.specs.Theory.Numbers.{number_least}
use Rattle.text.specs.Theory.TermText.{write_term_least}
use Rattle.text.specs.Theory.StepText.{Told, name_least, step_value_printable, read_step_value}
use Rattle.text.specs.Theory.ProofText.{proof_printable}
use Rattle.weigh.specs.Job.{WeighJob}
use Rattle.weigh.specs.Outcome.{Outcome, proved, atmost, unproved, Returns, by_proved, by_atmost, expanded}
use Rattle.weigh.specs.Text.{total_line, weigh_lines}
use Rattle.weigh.specs.Answered.{weigh_verdict, weigh_atleasts}
use Rattle.text.specs.Theory.LineValues.{given, under, line_values, step_lines, no_lines, uses_printable, yes_no_printable, none_each, steps_each}

module _ (ws : List Law) (told : Told ws) (j : WeighJob) where
  name_printable : (n : Name) → n ∈ names ws → Printable (law_name n)
  name_printable n i = higher (omega arith) (name_least ws told n i)

  abbrev total : List Line → ℕ
  total xs = weight (weights_of j.weights) xs

  -- the value of the line `atleast=`, under its key alone
  abbrev pub behind : String → Outcome → List (List ℕ)
  behind key (proved xs e n) = []
  behind key (atmost xs l e n) = under key "atleast=" (number l)
  behind key (unproved e n c) = []

  nothing_behind : (key : String) → ((v : List ℕ) → under key "atleast=" v ≡ []) → (o : Outcome) → behind key o ≡ []
  nothing_behind key h (proved xs e n) = refl
  nothing_behind key h (atmost xs l e n) = h (number l)
  nothing_behind key h (unproved e n c) = refl

  -- the values of an answer with a path under any key
  module _ (key : String) (xs : List Line) (named : (x : Line) → x ∈ xs → x.law ∈ names ws) where
    -- before `total=`, and behind it
    head_values : (v : List ℕ) → Printable v → (bs : List ℕ) {vs : List (List ℕ)} → values key bs ≡ vs
        → values key (field "answer=" v ++ (field "left=" (write_term j.left) ++ (field "right=" (write_term j.right) ++ (field "steps=" (number (length xs)) ++ bs))))
        ≡ under key "answer=" v
        ++ (under key "left=" (write_term j.left)
        ++ (under key "right=" (write_term j.right)
        ++ (under key "steps=" (number (length xs))
        ++ vs)))
    unfolding ascii
    head_values v h bs rest =
        line_values key "answer=" v _ tt h
        (line_values key "left=" (write_term j.left) _ tt (write_term_least j.left)
        (line_values key "right=" (write_term j.right) _ tt (write_term_least j.right)
        (line_values key "steps=" (number (length xs)) bs tt (higher (omega arith) (number_least (length xs))) rest)))

    tail_values : (e : ℕ) → values key (flatten (field "expanded=" (number e)
        ∷ field "uses=" (parted (code ",") (uses ws xs))
        ∷ flat_map step xs
        ∷ field "proof=" (proof ws j.left j.right xs)
        ∷ []))
        ≡ under key "expanded=" (number e)
        ++ (under key "uses=" (parted (code ",") (uses ws xs))
        ++ (flat_map (λ x. under key "step=" (step_value x)) xs
        ++ (under key "proof=" (proof ws j.left j.right xs)
        ++ given (after (ascii key) []))))
    unfolding ascii flatten
    tail_values e =
        line_values key "expanded=" (number e) _ tt (higher (omega arith) (number_least e))
        (line_values key "uses=" (parted (code ",") (uses ws xs)) _ tt
        (parted_least _ (code ",") (omega arith) (uses ws xs) (uses_printable ws name_printable xs))
        (step_lines key xs _ (λ x i. step_value_printable ws told x (named x i))
        (line_values key "proof=" (proof ws j.left j.right xs) [] tt
        (proof_printable ws j.left j.right xs (λ x i. name_printable x.law (named x i))) (no_lines key))))

    pub path_values : (o : Outcome) → Returns o xs → values key (flatten (weigh_lines ws j o))
        ≡ under key "answer=" (weigh_verdict o)
        ++ (under key "left=" (write_term j.left)
        ++ (under key "right=" (write_term j.right)
        ++ (under key "steps=" (number (length xs))
        ++ (under key "total=" (number (total xs))
        ++ (behind key o
        ++ (under key "expanded=" (number (expanded o))
        ++ (under key "uses=" (parted (code ",") (uses ws xs))
        ++ (flat_map (λ x. under key "step=" (step_value x)) xs
        ++ (under key "proof=" (proof ws j.left j.right xs)
        ++ given (after (ascii key) []))))))))))
    unfolding ascii weigh_lines total_line flatten
    path_values o (by_proved {e = e} {n = n}) =
        head_values (ascii "proved") (tested _ _ tt) _
        (line_values key "total=" (number (total xs)) _ tt (higher (omega arith) (number_least (total xs))) (tail_values e))
    path_values o (by_atmost {l = l} {e = e} {n = n}) =
        head_values (ascii "atmost") (tested _ _ tt) _
        (line_values key "total=" (number (total xs)) _ tt (higher (omega arith) (number_least (total xs)))
        (line_values key "atleast=" (number l) _ tt (higher (omega arith) (number_least l)) (tail_values e)))

  module _ (xs : List Line) (o : Outcome) (r : Returns o xs) (named : (x : Line) → x ∈ xs → x.law ∈ names ws) where
    abbrev path_text : List ℕ
    path_text = flatten (weigh_lines ws j o)

    pub path_answer : values "answer=" path_text ≡ weigh_verdict o ∷ []
    unfolding ascii after
    path_answer = path_values "answer=" xs named o r ∙ rw (none_each xs, nothing_behind "answer=" (λ v. refl) o)

    pub path_left : values "left=" path_text ≡ write_term j.left ∷ []
    unfolding ascii after
    path_left = path_values "left=" xs named o r ∙ rw (none_each xs, nothing_behind "left=" (λ v. refl) o)

    pub path_right : values "right=" path_text ≡ write_term j.right ∷ []
    unfolding ascii after
    path_right = path_values "right=" xs named o r ∙ rw (none_each xs, nothing_behind "right=" (λ v. refl) o)

    pub path_steps : values "steps=" path_text ≡ number (length xs) ∷ []
    unfolding ascii after
    path_steps = path_values "steps=" xs named o r ∙ rw (none_each xs, nothing_behind "steps=" (λ v. refl) o)

    pub path_total : values "total=" path_text ≡ number (total xs) ∷ []
    unfolding ascii after
    path_total = path_values "total=" xs named o r ∙ rw (none_each xs, nothing_behind "total=" (λ v. refl) o)

    pub path_atleast : values "atleast=" path_text ≡ weigh_atleasts o
    unfolding ascii after
    path_atleast = path_values "atleast=" xs named o r ∙ rw (none_each xs) (own o)
      where
        own : (o : Outcome) → behind "atleast=" o ++ [] ≡ weigh_atleasts o
        own (proved xs e n) = refl
        own (atmost xs l e n) = refl
        own (unproved e n c) = refl

    pub path_expanded : values "expanded=" path_text ≡ number (expanded o) ∷ []
    unfolding ascii after
    path_expanded = path_values "expanded=" xs named o r ∙ rw (none_each xs, nothing_behind "expanded=" (λ v. refl) o)

    pub path_cut : values "cut=" path_text ≡ []
    unfolding ascii after
    path_cut = path_values "cut=" xs named o r ∙ rw (none_each xs, nothing_behind "cut=" (λ v. refl) o)

    path_step : values "step=" path_text ≡ map step_value xs
    unfolding ascii after
    path_step = path_values "step=" xs named o r ∙ rw (nothing_behind "step=" (λ v. refl) o) (steps_each xs)

    pub path_read : ((x : Line) → x ∈ xs → Readable x.result) → read_steps ws path_text ≡ map some xs
    unfolding read_steps
    path_read readable =
        ap (map (read_step ws)) path_step ∙ each xs (λ x i. read_step_value ws told x (named x i) (readable x i))
      where
        each : (ys : List Line) → ((x : Line) → x ∈ ys → read_step ws (step_value x) ≡ some x) → map (read_step ws) (map step_value ys) ≡ map some ys
        each [] h = refl
        each (y ∷ ys) h = rw (h y (here refl), each ys (λ x i. h x (there i)))

  -- the values of a none under any key
  module _ (e n : ℕ) (c : Bool) where
    abbrev none_text : List ℕ
    none_text = flatten (weigh_lines ws j (unproved e n c))

    none_values : (key : String) → values key none_text
        ≡ under key "answer=" (ascii "none")
        ++ (under key "left=" (write_term j.left)
        ++ (under key "right=" (write_term j.right)
        ++ (under key "expanded=" (number e)
        ++ (under key "cut=" (yes_no c)
        ++ given (after (ascii key) [])))))
    unfolding weigh_lines flatten
    none_values key =
        line_values key "answer=" (ascii "none") _ tt (tested _ _ tt)
        (line_values key "left=" (write_term j.left) _ tt (write_term_least j.left)
        (line_values key "right=" (write_term j.right) _ tt (write_term_least j.right)
        (line_values key "expanded=" (number e) _ tt (higher (omega arith) (number_least e))
        (line_values key "cut=" (yes_no c) [] tt (yes_no_printable c) (no_lines key)))))

    pub none_answer : values "answer=" none_text ≡ ascii "none" ∷ []
    unfolding ascii after
    none_answer = none_values "answer="

    pub none_left : values "left=" none_text ≡ write_term j.left ∷ []
    unfolding ascii after
    none_left = none_values "left="

    pub none_right : values "right=" none_text ≡ write_term j.right ∷ []
    unfolding ascii after
    none_right = none_values "right="

    pub none_expanded : values "expanded=" none_text ≡ number e ∷ []
    unfolding ascii after
    none_expanded = none_values "expanded="

    pub none_cut : values "cut=" none_text ≡ yes_no c ∷ []
    unfolding ascii after
    none_cut = none_values "cut="

    pub none_atleast : values "atleast=" none_text ≡ []
    unfolding ascii after
    none_atleast = none_values "atleast="
