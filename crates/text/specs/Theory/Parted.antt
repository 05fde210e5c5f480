-- WORDS' answers tell whether the words of the sides are the same, and where they part.
use Rattle.std.specs.Prelude.{ℕ, ◌≡◌, refl, Bool, true, false, List, [], ◌∷◌, ◌++◌, map, length, drop}
use Prim.Native.Char.{code}
use Prim.Native.String.{String}
use Rattle.std.proofs.Common.{arith, sym, ◌∙◌, ap, append_assoc, append-nil}
use Rattle.std.proofs.Math.Dec.{compare_is_eq}
use Rattle.std.proofs.lemmas.List.{length-map}
use Rattle.std.specs.List.{take-map, drop-map}
use mathlib.Core.List.{flatten, cons-ne-nil}
use Rattle.terms.specs.Compare.{order_numbers, lexicographic}
use Rattle.terms.specs.Differ.{differ_at, Unlike, DifferAt}
use Rattle.terms.specs.Equation.{orient}
use Rattle.terms.specs.Term.{Term}
use Rattle.terms.specs.Theory.Reflects.{Reflects}
use Rattle.terms.specs.Theory.Order.{tie_reflects}
use Rattle.terms.specs.Theory.Equation.{orient_either, orient_swap}
use Rattle.terms.specs.Theory.Differ.{differ_first, differ_once, differ_swap, differ_apart, beginning_at}
use Rattle.words.specs.Words.{Word, order_words, order_lists, words}
use Rattle.words.specs.Theory.Order.{word_order, list_order}
use Rattle.search.specs.Line.{Limits}
use Rattle.text.specs.Bytes.{ascii, number, after, pieces}
use Rattle.text.specs.Answer.{field, values, yes_no}
use Rattle.text.specs.JobText.{Passes}
use Rattle.text.specs.Words.{word, word_list, lists_text, differ_line, words_text, words_entry}
use Rattle.text.specs.Parted.{listed, Lines, SaysYes, SaysNo, Lists, Told, Tells, PartsAtEnd}
use Rattle.text.specs.Theory.AtLeast.{higher}
use Rattle.text.specs.Theory.Numbers.{number_least}
use Rattle.text.specs.Theory.LineValues.{given, under, line_values, no_lines, yes_no_printable}
use Rattle.text.specs.Theory.Printed.{number_apart, word_apart, list_pieces, none_apart, list_least}
use Rattle.text.specs.Theory.Accepted.{If_accepted}
use Rattle.text.specs.Theory.Stated.{stated}
use Rattle.text.specs.Theory.Entry.{words_claims}

-- a value lists its words

listed_words : (ws : List Word) → listed (word_list ws) ≡ map word ws
unfolding listed word_list ascii lexicographic
listed_words [] = refl
listed_words (w ∷ ws) =
    go (compare_is_eq (order_numbers (word_list (w ∷ ws)) (ascii "0"))) (tie_reflects word_order (word_list (w ∷ ws)) (ascii "0"))
  where
    go : (b : Bool) → Reflects (word_list (w ∷ ws) ≡ ascii "0") b
        → elim b [ true ↦ [] | false ↦ pieces (code ";") (word_list (w ∷ ws)) ] ≡ map word (w ∷ ws)
    go true e = absurd (none_apart w ws (sym e))
    go false h = list_pieces w ws

-- lists part where the lists of their texts do
module _ {A B : Type 0} (f : A → B) (apart : (x y : A) → f x ≡ f y → x ≡ y) where
  unlike_mapped : (xs ys : List A) → Unlike xs ys → Unlike (map f xs) (map f ys)
  unlike_mapped [] [] h = h
  unlike_mapped [] (y ∷ ys) h = tt
  unlike_mapped (x ∷ xs) [] h = tt
  unlike_mapped (x ∷ xs) (y ∷ ys) h = λ e. h (apart x y e)

  differ_mapped : (xs ys : List A) (k : ℕ) → DifferAt xs ys k → DifferAt (map f xs) (map f ys) k
  differ_mapped xs ys k p =
      record {
        agree = record {
          within = rw (length-map xs f, length-map ys f) p.agree.within;
          front = take-map f k xs ∙ ap (map f) p.agree.front ∙ sym (take-map f k ys);
        };
        here = rw (drop-map f k xs, drop-map f k ys) (unlike_mapped (drop k xs) (drop k ys) p.here);
      }

-- the lines of the text

module _ (b : Bool) (us vs : List Word) (last : List ℕ) where
  abbrev text : List ℕ
  text = lists_text b us vs ++ last

  text_whole : text ≡ (field "same=" (yes_no b) ++ (field "left=" (word_list us) ++ field "right=" (word_list vs))) ++ last
  unfolding lists_text flatten
  text_whole = ap (λ l. (field "same=" (yes_no b) ++ (field "left=" (word_list us) ++ l)) ++ last) (append-nil (field "right=" (word_list vs)))

  text_values : (key : String) {ws : List (List ℕ)} → values key last ≡ ws
      → values key text ≡ under key "same=" (yes_no b) ++ (under key "left=" (word_list us) ++ (under key "right=" (word_list vs) ++ ws))
  unfolding ascii
  text_values key rest =
      ap (values key) (text_whole ∙ simp append_assoc)
      ∙ line_values key "same=" (yes_no b) _ tt (yes_no_printable b)
      (line_values key "left=" (word_list us) _ tt (list_least us) (line_values key "right=" (word_list vs) last tt (list_least vs) rest))

  text_lines : values "same=" last ≡ [] → values "left=" last ≡ [] → values "right=" last ≡ []
      → Lines (yes_no b) (word_list us) (word_list vs) last text
  unfolding ascii after
  text_lines p q r = record { whole = text_whole; same = text_values "same=" p; left = text_values "left=" q; right = text_values "right=" r }

lines_yes : (us vs : List Word) → Lines (ascii "yes") (word_list us) (word_list vs) [] (lists_text true us vs ++ [])
unfolding yes_no ascii after
lines_yes us vs = text_lines true us vs [] (no_lines "same=") (no_lines "left=") (no_lines "right=")

says_yes : (us : List Word) → SaysYes (lists_text true us us ++ [])
unfolding yes_no ascii after
says_yes us =
    record {
      list = word_list us;
      lines = lines_yes us us;
      differ = text_values true us us [] "differ=" (no_lines "differ=");
    }

module _ (us vs : List Word) (k : ℕ) where
  abbrev last_line : List ℕ
  last_line = field "differ=" (number k)

  last_values : (key : String) → values key last_line ≡ under key "differ=" (number k) ++ given (after (ascii key) [])
  unfolding ascii
  last_values key =
      ap (values key) (sym (append-nil last_line))
      ∙ line_values key "differ=" (number k) [] tt (higher (omega arith) (number_least k)) (no_lines key)

  lines_no : Lines (ascii "no") (word_list us) (word_list vs) last_line (lists_text false us vs ++ last_line)
  unfolding yes_no ascii after
  lines_no = text_lines false us vs last_line (last_values "same=") (last_values "left=") (last_values "right=")

  says_no : DifferAt us vs k → SaysNo (lists_text false us vs ++ last_line) k
  unfolding yes_no ascii after
  says_no p =
      record {
        left = word_list us;
        right = word_list vs;
        lines = lines_no;
        differ = text_values false us vs last_line "differ=" (last_values "differ=");
        place = rw (listed_words us, listed_words vs) (differ_mapped word word_apart us vs k p);
      }

-- the place is told by the bytes

module _ {a : List ℕ} where
  never_both : {k : ℕ} → SaysYes a → SaysNo a k → ⊥
  never_both {k} y n = cons-ne-nil (number k) [] (sym n.differ ∙ y.differ)

  same_place : {j k : ℕ} → SaysNo a j → SaysNo a k → j ≡ k
  same_place {j} {k} m n =
      let e = sym m.differ ∙ n.differ in
      let p : number j ≡ number k = cc in
      number_apart j k p

-- what an answer tells of the words of the sides

module _ {us vs : List Word} {a : List ℕ} (lists : Lists (orient order_lists us vs).left (orient order_lists us vs).right a) where
  told_yes : us ≡ vs → SaysYes a → Told us vs a
  told_yes e y =
      record {
        lists = lists;
        yes = (λ _. e, λ _. y);
        no = (λ (k, n). absurd (never_both y n), λ differ. absurd (differ e));
        place = λ k n. absurd (never_both y n);
      }

  told_no : (us ≡ vs → ⊥) → SaysNo a (differ_at order_words us vs) → Told us vs a
  told_no differ n =
      record {
        lists = lists;
        yes = (λ y. absurd (never_both y n), λ e. absurd (differ e));
        no = (λ _. differ, λ _. (differ_at order_words us vs, n));
        place = λ k m. let e = same_place m n in (e, rw e (differ_first word_order us vs differ));
      }

lists_of : (ls rs : List Word) {said last a : List ℕ} → Lines said (word_list ls) (word_list rs) last a → Lists ls rs a
lists_of ls rs h = (
  ap (map listed) h.left ∙ ap (λ ws. ws ∷ []) (listed_words ls),
  ap (map listed) h.right ∙ ap (λ ws. ws ∷ []) (listed_words rs),
)

-- the lists in order are printed
module _ (us vs : List Word) where
  abbrev ls : List Word
  ls = (orient order_lists us vs).left

  abbrev rs : List Word
  rs = (orient order_lists us vs).right

  printed_alike : us ≡ vs → rs ≡ ls
  printed_alike e = orient_either (λ a b. b ≡ a) order_lists us vs (sym e) e

  printed_part : (k : ℕ) → DifferAt us vs k → DifferAt ls rs k
  printed_part k p = orient_either (λ a b. DifferAt a b k) order_lists us vs p (differ_swap p)

  told_printed : (b : Bool) → Reflects (us ≡ vs) b → Told us vs (lists_text b ls rs ++ differ_line b us vs)
  unfolding differ_line
  told_printed true e =
      let y : SaysYes (lists_text true ls rs ++ []) = rw (printed_alike e) (says_yes ls) in
      told_yes (lists_of ls rs (lines_yes ls rs)) e y
  told_printed false differ =
      let k = differ_at order_words us vs in
      told_no (lists_of ls rs (lines_no ls rs k)) differ (says_no ls rs k (printed_part k (differ_first word_order us vs differ)))

  pub told : Told us vs (words_text us vs)
  unfolding words_text
  told = told_printed (compare_is_eq (order_lists us vs)) (tie_reflects list_order us vs)

-- the other way round
told_swap : {us vs : List Word} {a : List ℕ} → Told us vs a → Told vs us a
told_swap {us} {vs} h =
    record {
      lists = rw (orient_swap list_order vs us) h.lists;
      yes = (λ y. sym (h.yes.0 y), λ e. h.yes.1 (sym e));
      no = (λ n e. h.no.0 n (sym e), λ differ. h.no.1 (λ e. differ (sym e)));
      place = λ k n.
          let q = differ_swap (h.place k n).1 in
          (differ_once vs us q (differ_first word_order vs us (differ_apart vs us k q)), q);
    }

-- of every call that answers

words_tells : (job : List ℕ) (room : ℕ)
    → If_accepted (λ a. (s : Term) × (t : Term) × (m : Limits) × Passes job s t m × Told (words s) (words t) a) (words_entry job room)
unfolding words_entry
words_tells =
    stated (λ s t a. Told (words s) (words t) a) (λ s t. words_text (words s) (words t)) (λ s t a h. told_swap h) (λ s t. told (words s) (words t))

pub tells : Tells
tells job out r out' c h = rw ((words_claims job out c).text h) at (words_tells job (length out))

-- a list that is a beginning of the other

beginning : (us vs : List (List ℕ)) {k : ℕ} → DifferAt us (us ++ vs) k → k ≡ length us
beginning us [] {k} p = absurd (differ_apart us (us ++ []) k p (sym (append-nil us)))
beginning us (v ∷ vs) {k} p =
    let longer = us ++ (v ∷ vs) in
    differ_once us longer p (differ_first word_order us longer (differ_apart us longer k p)) ∙ (beginning_at word_order us v vs).0

pub parts_at_end : PartsAtEnd
parts_at_end a k n more = (
  λ e. beginning (listed n.left) more (rw e at n.place),
  λ e. beginning (listed n.right) more (rw e at (differ_swap n.place)),
)
