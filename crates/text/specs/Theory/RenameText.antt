-- RENAME's answer, line by line.
use Rattle.std.specs.Prelude.{ℕ, ◌≡◌, refl, Bool, true, false}
use Prim.Native.String.{String}
use Rattle.std.proofs.Common.{sym, ◌∙◌}
use Rattle.std.proofs.Math.Path.{ap}
use mathlib.Core.List.{List, [], ◌++◌, append-nil, append_assoc}
use Rattle.std.proofs.Math.Dec.{compare_is_eq}
use Rattle.terms.specs.Equation.{Equation}
use Rattle.terms.specs.Term.{Term}
use Rattle.words.specs.Words.{Word, words, order_lists}
use Rattle.words.specs.Rename.{canonical_terms, canonical_words}
use Rattle.text.specs.Bytes.{ascii, after}
use Rattle.text.specs.TermText.{write_term}
use Rattle.text.specs.Answer.{refused, accepted, ◌>>=◌, fitting, field, values}
use Rattle.text.specs.Job.{Job, read_job}
use Rattle.text.specs.Words.{word_list}
use Rattle.text.specs.Rename.{term_lines, word_lines, renamed_words, rename_text, rename_entry}
use Rattle.text.specs.Shared.{FourLines}
use Rattle.text.specs.Theory.AtLeast.{Printable}
use Rattle.text.specs.Theory.TermText.{write_term_least}
use Rattle.text.specs.Theory.LineValues.{given, under, line_values, no_lines}
use Rattle.text.specs.Theory.Printed.{Values, list_least, dash_least}

-- a job that is read is answered by its text, where there is room, and another is refused

pub rename_prints : (job : List ℕ) (room : ℕ) {j : Job} → read_job job ≡ accepted j → rename_entry job room ≡ fitting room (rename_text j.left j.right)
unfolding rename_entry ◌>>=◌
rename_prints job room e = rw e

pub rename_refuses : (job : List ℕ) (room : ℕ) {n : ℕ} → read_job job ≡ refused n → rename_entry job room ≡ refused n
unfolding rename_entry ◌>>=◌
rename_refuses job room e = rw e

-- the values of four lines by their keys
module _ {a b c d : List ℕ} (P : Values a b c d) where
  abbrev four_lines : List ℕ
  four_lines = (field "left=" a ++ field "right=" b) ++ (field "wleft=" c ++ field "wright=" d)

  four_values : (key : String) → values key four_lines ≡ under key "left=" a ++ (under key "right=" b ++ (under key "wleft=" c ++ (under key "wright=" d ++ given (after (ascii key) []))))
  unfolding ascii
  four_values key =
      ap (values key)
      (append_assoc (field "left=" a) (field "right=" b) (field "wleft=" c ++ field "wright=" d)
      ∙ ap (λ l. field "left=" a ++ (field "right=" b ++ (field "wleft=" c ++ l))) (sym (append-nil (field "wright=" d))))
      ∙ line_values key "left=" a _ tt P.first (line_values key "right=" b _ tt P.second (line_values key "wleft=" c _ tt P.third (line_values key "wright=" d [] tt P.fourth (no_lines key))))

  of_four : FourLines four_lines a b c d
  unfolding after ascii
  of_four = record { whole = refl; left = four_values "left="; right = four_values "right="; wleft = four_values "wleft="; wright = four_values "wright=" }

-- what stands behind `wleft=` or `wright=`: a list, or `-` where the words agree
abbrev pub word_value : Bool → List Word → List ℕ
word_value true ws = ascii "-"
word_value false ws = word_list ws

value_least : (b : Bool) (ws : List Word) → Printable (word_value b ws)
value_least true ws = dash_least
value_least false ws = list_least ws

pub words_lines : (us vs : List Word) → let b = compare_is_eq (order_lists us vs) in let e = canonical_words us vs in
    renamed_words us vs ≡ word_lines (word_value b e.left) (word_value b e.right)
unfolding renamed_words
words_lines us vs = go (compare_is_eq (order_lists us vs)) (canonical_words us vs)
  where
    go : (b : Bool) (e : Equation (List Word))
        → elim b [ true ↦ word_lines (ascii "-") (ascii "-") | false ↦ word_lines (word_list e.left) (word_list e.right) ]
        ≡ word_lines (word_value b e.left) (word_value b e.right)
    go true e = refl
    go false e = refl

-- whether the words of two sides agree
abbrev pub agree : Term → Term → Bool
agree s t = compare_is_eq (order_lists (words s) (words t))

-- the values of the four lines of an equation
module _ (s t : Term) where
  abbrev pub left_value : List ℕ
  left_value = write_term (canonical_terms s t).left

  abbrev pub right_value : List ℕ
  right_value = write_term (canonical_terms s t).right

  abbrev pub wleft_value : List ℕ
  wleft_value = word_value (agree s t) (canonical_words (words s) (words t)).left

  abbrev pub wright_value : List ℕ
  wright_value = word_value (agree s t) (canonical_words (words s) (words t)).right

  pub printable_values : Values left_value right_value wleft_value wright_value
  printable_values =
      record {
        first = write_term_least (canonical_terms s t).left;
        second = write_term_least (canonical_terms s t).right;
        third = value_least (agree s t) (canonical_words (words s) (words t)).left;
        fourth = value_least (agree s t) (canonical_words (words s) (words t)).right;
      }

  text_whole : rename_text s t ≡ (field "left=" left_value ++ field "right=" right_value) ++ (field "wleft=" wleft_value ++ field "wright=" wright_value)
  unfolding term_lines word_lines
  text_whole = ap (λ l. term_lines (canonical_terms s t) ++ l) (words_lines (words s) (words t))

  pub text_lines : FourLines (rename_text s t) left_value right_value wleft_value wright_value
  text_lines = rw text_whole (of_four printable_values)
