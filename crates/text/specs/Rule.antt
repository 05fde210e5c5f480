-- FIND, WORDS and RENAME once more, over a rule that says how letters are read, written and counted. At the rule of the other files they are
-- theirs (`ByPresent`). CHECK and PUT follow in their crates' Former.
use Rattle.std.specs.Prelude.{ℕ, Bool, ◌&&◌, length}
use Prim.Native.Char.{code}
use Rattle.std.proofs.Math.Bool.{true, false, not}
use Rattle.std.proofs.Math.Option.{Option, some, bind as ◌then◌}
use mathlib.Core.List.{List, [], ◌∷◌, ◌++◌, map, flat_map, flatten}
use Rattle.std.proofs.Math.Dec.{leb, compare_is_eq}
use Rattle.terms.specs.Compare.{lexicographic}
use Rattle.terms.specs.Equation.{Equation, orient}
use Rattle.terms.specs.Term.{Term, letter, zero, one, add, mul, size, order, same}
use Rattle.terms.specs.Letters.{letters, rising}
use Rattle.terms.specs.Build.{Token, read}
use Rattle.words.specs.Words.{Word, order_lists, words_with, words}
use Rattle.words.specs.Rename.{least, rename_term, rename_words}
use Rattle.search.specs.Law.{Law, semiring}
use Rattle.search.specs.Line.{Line, Limits}
use Rattle.search.specs.Search.{Outcome, proved, unproved, noted, search}
use Rattle.search.specs.Cut.{cut}
use Rattle.text.specs.Bytes.{ascii, number, parted, pieces}
use Rattle.text.specs.Answer.{Answer, accepted, ◌>>=◌, require, or_refuse, fitting, field, printed, yes_no}
use Rattle.text.specs.Layout.{layout}
use Rattle.text.specs.Job.{Job, in_range, oriented}
use Rattle.text.specs.FindJob.{layouts, every, in_place, all_small}
use Rattle.text.specs.StepText.{law_name, direction, place}
use Rattle.text.specs.Proof.{proof}
use Rattle.text.specs.Find.{uses, searched}
use Rattle.text.specs.Words.{differ_line}
use Rattle.text.specs.Rename.{word_lines}

-- what an item stands for, how a letter is written, and which letters of a list refusal 4 counts and RENAME renames
pub record Rule : Type 0 where
  pub token : List ℕ → Option Token
  pub write : ℕ → List ℕ
  pub counted : List ℕ → List ℕ

module _ (R : Rule) where
  -- terms

  unfoldable pub items : Term → List (List ℕ)
  unfolding ascii
  items (letter n) = R.write n ∷ []
  items zero = ascii "0" ∷ []
  items one = ascii "1" ∷ []
  items (add s t) = ascii "+" ∷ (items s ++ items t)
  items (mul s t) = ascii "*" ∷ (items s ++ items t)

  unfoldable pub write_term : Term → List ℕ
  unfolding items parted
  write_term t = parted (code " ") (items t)

  unfoldable pub read_term : List ℕ → Option Term
  unfolding read pieces
  read_term bs = read R.token (pieces (code " ") bs)

  unfoldable pub read_terms : List (List ℕ) → Option (List Term)
  unfolding ◌then◌ read_term
  read_terms [] = some []
  read_terms (b ∷ bs) = ◌then◌ (read_term b) λ t. ◌then◌ (read_terms bs) λ ts. some (t ∷ ts)

  -- jobs with one right side, refusals 1 to 6

  abbrev pub few : List ℕ → Bool
  few ns = leb (length (rising (R.counted ns))) 6

  unfoldable pub accept : Term → Term → Limits → Answer Job
  unfolding ◌>>=◌ require size rising letters in_range same oriented
  accept s t m = do
    _ ← require 3 (leb (size s) 31 && leb (size t) 31)
    _ ← require 4 (few (letters s ++ letters t))
    _ ← require 5 (in_range m)
    _ ← require 6 (not (same s t))
    accepted (oriented s t m)

  unfoldable pub read_job : List ℕ → Answer Job
  unfolding ◌>>=◌ require or_refuse layout read_term accept
  read_job bs = do
    _ ← require 1 (leb (length bs) 1024)
    j ← or_refuse 1 (layout bs)
    s ← or_refuse 2 (read_term j.left)
    t ← or_refuse 2 (read_term j.right)
    accept s t j.limits

  -- FIND's jobs, refusals 1 to 6, 9 and 10

  unfoldable pub accept_each : Term → List Term → Limits → Answer (List Job)
  unfolding ◌>>=◌ require size rising letters in_range same oriented every in_place
  accept_each s ts m = do
    _ ← require 3 (leb (size s) 31 && all_small ts)
    _ ← require 4 (every (λ t. few (letters s ++ letters t)) ts)
    _ ← require 5 (in_range m)
    _ ← require 6 (every (λ t. not (same s t)) ts)
    _ ← require 10 (in_place s ts)
    accepted (map (λ t. oriented s t m) ts)

  unfoldable pub read_find : List ℕ → Answer (List Job)
  unfolding ◌>>=◌ require or_refuse layouts read_term read_terms accept_each
  read_find bs = do
    _ ← require 1 (leb (length bs) 4096)
    j ← or_refuse 1 (layouts bs)
    _ ← require 9 (leb (length j.rights) 16)
    s ← or_refuse 2 (read_term j.left)
    ts ← or_refuse 2 (read_terms j.rights)
    accept_each s ts j.limits

  -- FIND's answer, refusals 7 and 8

  unfoldable pub step : Line → List ℕ
  unfolding field ascii parted law_name direction place write_term
  step x =
      field "step="
      (parted (code " ")
      (law_name x.law
      ∷ direction x.direction
      ∷ (ascii "at=" ++ place x.place)
      ∷ (ascii "to=" ++ write_term x.result)
      ∷ []))

  unfoldable pub outcome_lines : List Law → Job → Outcome → List (List ℕ)
  unfolding flat_map field ascii write_term number parted uses step proof yes_no cut
  outcome_lines ws j (proved xs e n) =
      field "answer=" (ascii "proved")
      ∷ field "left=" (write_term j.left)
      ∷ field "right=" (write_term j.right)
      ∷ field "steps=" (number (length xs))
      ∷ field "expanded=" (number e)
      ∷ field "uses=" (parted (code ",") (uses ws xs))
      ∷ flat_map step xs
      ∷ field "proof=" (proof ws j.left j.right xs)
      ∷ []
  outcome_lines ws j (unproved e n) =
      field "answer=" (ascii "none")
      ∷ field "left=" (write_term j.left)
      ∷ field "right=" (write_term j.right)
      ∷ field "expanded=" (number e)
      ∷ field "cut=" (yes_no (cut ws j.limits j.left))
      ∷ []

  unfoldable pub alone : (slots : ℕ) → Job → Answer (List ℕ)
  unfolding ◌>>=◌ require search semiring flatten outcome_lines
  alone slots j = do
    _ ← require 7 (leb (noted (searched j)) slots)
    accepted (flatten (outcome_lines semiring j (searched j)))

  unfoldable pub together : (slots : ℕ) → List Job → Answer (List ℕ)
  unfolding printed alone flat_map
  together slots [] = accepted []
  together slots (j ∷ []) = alone slots j
  together slots (j ∷ k ∷ ks) = accepted (flat_map (λ i. printed (alone slots i)) (j ∷ k ∷ ks))

  unfoldable pub find : (job : List ℕ) (slots room : ℕ) → Answer (List ℕ)
  unfolding ◌>>=◌ read_find together fitting
  find bs slots room = do
    js ← read_find bs
    t ← together slots js
    fitting room t

  -- WORDS' answer

  unfoldable pub word : Word → List ℕ
  unfolding ascii parted
  word [] = ascii "1"
  word (n ∷ ns) = parted (code " ") (map R.write (n ∷ ns))

  unfoldable pub word_list : List Word → List ℕ
  unfolding ascii parted word
  word_list [] = ascii "0"
  word_list (w ∷ ws) = parted (code ";") (map word (w ∷ ws))

  unfoldable pub words_text : List Word → List Word → List ℕ
  unfolding flatten field yes_no word_list orient lexicographic differ_line
  words_text u v =
      let e = orient order_lists u v in
      let same = compare_is_eq (order_lists u v) in
      flatten (field "same=" (yes_no same) ∷ field "left=" (word_list e.left) ∷ field "right=" (word_list e.right) ∷ []) ++ differ_line same u v

  unfoldable pub words_entry : (job : List ℕ) (room : ℕ) → Answer (List ℕ)
  unfolding ◌>>=◌ read_job words_with words_text fitting
  words_entry bs room = do
    j ← read_job bs
    fitting room (words_text (words j.left) (words j.right))

  -- RENAME's answer

  unfoldable pub canonical_terms : Term → Term → Equation Term
  unfolding least rising letters rename_term order
  canonical_terms s t = least order rename_term (rising (R.counted (letters s ++ letters t))) s t

  unfoldable pub canonical_words : List Word → List Word → Equation (List Word)
  unfolding least rising flatten rename_words lexicographic
  canonical_words u v = least order_lists rename_words (rising (R.counted (flatten u ++ flatten v))) u v

  unfoldable pub term_lines : Equation Term → List ℕ
  unfolding field write_term
  term_lines e = field "left=" (write_term e.left) ++ field "right=" (write_term e.right)

  unfoldable pub renamed_words : List Word → List Word → List ℕ
  unfolding lexicographic canonical_words word_lines word_list ascii
  renamed_words u v =
      elim (compare_is_eq (order_lists u v)) [
        | true ↦ word_lines (ascii "-") (ascii "-")
        | false ↦ let e = canonical_words u v in word_lines (word_list e.left) (word_list e.right)
      ]

  unfoldable pub rename_entry : (job : List ℕ) (room : ℕ) → Answer (List ℕ)
  unfolding ◌>>=◌ read_job canonical_terms words_with term_lines renamed_words fitting
  rename_entry bs room = do
    j ← read_job bs
    fitting room (term_lines (canonical_terms j.left j.right) ++ renamed_words (words j.left) (words j.right))
