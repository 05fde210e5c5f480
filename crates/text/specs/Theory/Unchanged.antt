-- FIND, WORDS and RENAME answer jobs without a c letter as by the former rule.
use Rattle.std.specs.Prelude.{ℕ, ◌<◌, ◌≤◌, ◌≡◌, refl, length}
use Prim.Native.Char.{code}
use Rattle.std.proofs.Common.{arith, ◌∙◌, ⊎_elim}
use Rattle.std.proofs.Math.Path.{ap, ap₂}
use Rattle.std.proofs.Math.Bool.{true, false}
use mathlib.Core.List.{List, [], ◌∷◌, ◌++◌, map, flat_map, flatten}
use Rattle.std.proofs.Math.Dec.{compare_is_eq}
use Rattle.terms.specs.Lists.{◌∈◌, here, there, in_left, in_right, append_cases}
use Rattle.terms.specs.Compare.{Ordering}
use Rattle.terms.specs.Equation.{Equation, orient}
use Rattle.terms.specs.Term.{Term, letter, zero, one, add, mul}
use Rattle.terms.specs.Letters.{letters, FIXED}
use Rattle.terms.specs.Theory.Order.{irreflexive}
use Rattle.terms.specs.Theory.TermOrder.{term_order}
use Rattle.terms.specs.Theory.Equation.{orient_either}
use Rattle.terms.specs.Theory.Letters.{below_fewer}
use Rattle.words.specs.Words.{Word, order_lists, words}
use Rattle.words.specs.Rename.{canonical_terms, canonical_words}
use Rattle.words.specs.Bijection.{IsLeast}
use Rattle.words.specs.Theory.Bijections.{map_agree}
use Rattle.words.specs.Theory.Renaming.{names_of, names_members, canonical_terms_least, canonical_words_least, canonical_terms_free, canonical_words_free}
use Rattle.words.specs.Theory.Alike.{Renames}
use Rattle.words.specs.Theory.Renames.{terms_rename, words_rename, words_letters}
use Rattle.search.specs.Law.{semiring}
use Rattle.search.specs.Line.{Line}
use Rattle.search.specs.Search.{Outcome, proved, unproved}
use Rattle.search.specs.Theory.Claims.{proved_letters}
use Rattle.text.specs.Bytes.{ascii, number, parted}
use Rattle.text.specs.TermText.{write_letter, items, write_term}
use Rattle.text.specs.Answer.{accepted, ◌>>=◌, fitting, field, printed, yes_no}
use Rattle.text.specs.Job.{Job, read_job, Accepted}
use Rattle.text.specs.FindJob.{read_find}
use Rattle.text.specs.StepText.{step_value}
use Rattle.text.specs.Find.{step, outcome_lines, outcome_text, searched, alone, block, together, find}
use Rattle.text.specs.Words.{word, word_list, lists_text, differ_line, words_text, words_entry}
use Rattle.text.specs.Rename.{term_lines, word_lines, renamed_words, rename_entry}
use Rattle.text.specs.Rule as by
use Rattle.text.specs.Former.{former, Plain, Without, FindUnchanged, WordsUnchanged, RenameUnchanged}
use Rattle.text.specs.Theory.TermText.{write_v}
use Rattle.text.specs.Theory.JobText.{job_accepted}
use Rattle.text.specs.Theory.FindJobs.{AllAccepted, jobs_accepted}
use Rattle.text.specs.Theory.Former.{Same, then_equal, and_known, PlainJob, PlainJobs, both_plain, read_job_same, read_find_same}

-- a v letter is written as by that rule, and so is a term

letter_written : (n : ℕ) → n < FIXED → write_letter n ≡ ascii "v" ++ number n
unfolding ascii
letter_written n h = write_v n h

items_same : (t : Term) → Plain t → items t ≡ by.items former t
unfolding items by.items letters
items_same (letter n) h = ap (λ p. p ∷ []) (letter_written n (h n (here refl)))
items_same zero h = refl
items_same one h = refl
items_same (add s t) h =
    ap₂ (λ p q. ascii "+" ∷ (p ++ q)) (items_same s (λ n i. h n (in_left (letters t) i))) (items_same t (λ n i. h n (in_right (letters s) i)))
items_same (mul s t) h =
    ap₂ (λ p q. ascii "*" ∷ (p ++ q)) (items_same s (λ n i. h n (in_left (letters t) i))) (items_same t (λ n i. h n (in_right (letters s) i)))

term_same : (t : Term) → Plain t → write_term t ≡ by.write_term former t
unfolding write_term by.write_term
term_same t h = ap (parted (code " ")) (items_same t h)

-- words

-- the letters that it has are v letters
abbrev Below : {A : Type 0} → (A → List ℕ) → A → Type 0
Below has x = (n : ℕ) → n ∈ has x → n < FIXED

abbrev PlainWords : List Word → Type 0
PlainWords = Below flatten

words_plain : (t : Term) → Plain t → PlainWords (words t)
words_plain t h n i = h n (words_letters t n i)

word_same : (w : Word) → Below (λ ns. ns) w → word w ≡ by.word former w
unfolding word by.word
word_same [] h = refl
word_same (n ∷ ns) h = ap (parted (code " ")) (map_agree write_letter (λ m. ascii "v" ++ number m) (n ∷ ns) (λ m i. letter_written m (h m i)))

each_word : (ws : List Word) → PlainWords ws → map word ws ≡ map (by.word former) ws
unfolding flatten
each_word [] h = refl
each_word (w ∷ ws) h = ap₂ ◌∷◌ (word_same w (λ n i. h n (in_left (flatten ws) i))) (each_word ws (λ n i. h n (in_right w i)))

list_same : (ws : List Word) → PlainWords ws → word_list ws ≡ by.word_list former ws
unfolding word_list by.word_list
list_same [] h = refl
list_same (w ∷ ws) h = ap (parted (code ";")) (each_word (w ∷ ws) h)

text_same : (u v : List Word) → PlainWords u → PlainWords v → words_text u v ≡ by.words_text former u v
unfolding words_text lists_text by.words_text
text_same u v h k =
    let (left, right) = orient_either (λ a b. PlainWords a × PlainWords b) order_lists u v (h, k) (k, h) in
    let e = orient order_lists u v in
    let same = compare_is_eq (order_lists u v) in
    ap₂ (λ l r. flatten (field "same=" (yes_no same) ∷ field "left=" l ∷ field "right=" r ∷ []) ++ differ_line same u v)
    (list_same e.left left) (list_same e.right right)

pub words_unchanged : WordsUnchanged
unfolding words_entry by.words_entry
words_unchanged bs room without =
    then_equal PlainJob (read_job_same bs without) λ j (left, right).
    ap (fitting room) (text_same (words j.left) (words j.right) (words_plain j.left left) (words_plain j.right right))

-- renamed equations

-- over whatever is renamed: the least equation has no c letter where there was none
module _ {A : Type 0} {o : A → A → Ordering} {rename : (ℕ → ℕ) → A → A} {has : A → List ℕ} {Ok : A → Type 0} (R : Renames rename has Ok) where
  least_plain : (s t : A) {e : Equation A} → IsLeast o rename (names_of (has s ++ has t)) s t e → length (names_of (has s ++ has t)) ≤ 6
      → Below has s → Below has t → Below has e.left × Below has e.right
  least_plain s t least few h k =
      let (f, b, _, is) = least.attained in
      let both = has s ++ has t in
      let renamed : (x : A) → Below has x → ((n : ℕ) → n ∈ has x → n ∈ both) → Below has (rename f x) =
      λ x low of-both n i.
      let (m, j, e) = (R.letters f x n).0 i in
      omega (arith, b.below m ((names_members both m).1 (of-both m j, low m j)), few) in
      let left = renamed s h (λ n i. in_left (has t) i) in
      let right = renamed t k (λ n i. in_right (has s) i) in
      rw is (orient_either (λ x y. Below has x × Below has y) o (rename f s) (rename f t) (left, right) (right, left))

module _ (s t : Term) (few : length (names_of (letters s ++ letters t)) ≤ 6) (h : Plain s) (k : Plain t) where
  pub terms_same : term_lines (canonical_terms s t) ≡ by.term_lines former (by.canonical_terms former s t)
  unfolding term_lines by.term_lines by.canonical_terms
  terms_same =
      let (left, right) = least_plain terms_rename s t (canonical_terms_least s t) few h k in
      ap₂ (λ l r. field "left=" l ++ field "right=" r) (term_same (canonical_terms s t).left left) (term_same (canonical_terms s t).right right)
      ∙ ap (by.term_lines former) (canonical_terms_free s t (both_plain s t h k))

  both_words : (n : ℕ) → n ∈ flatten (words s) ++ flatten (words t) → n ∈ letters s ++ letters t
  both_words n i =
      ⊎_elim (λ j. in_left (letters t) (words_letters s n j)) (λ j. in_right (letters s) (words_letters t n j)) (append_cases (flatten (words s)) i)

  pub renamed_same : renamed_words (words s) (words t) ≡ by.renamed_words former (words s) (words t)
  unfolding renamed_words by.renamed_words by.canonical_words
  renamed_same =
      let u = words s in
      let v = words t in
      let fewer = below_fewer FIXED (flatten u ++ flatten v) (letters s ++ letters t) both_words in
      let (left, right) = least_plain words_rename u v (canonical_words_least u v) (omega arith) (words_plain s h) (words_plain t k) in
      let free = canonical_words_free u v (λ n i. both_plain s t h k n (both_words n i)) in
      ap₂ (λ l r. elim (compare_is_eq (order_lists u v)) [ true ↦ word_lines (ascii "-") (ascii "-") | false ↦ word_lines l r ])
      (list_same (canonical_words u v).left left ∙ ap (λ e. by.word_list former e.left) free)
      (list_same (canonical_words u v).right right ∙ ap (λ e. by.word_list former e.right) free)

-- an accepted equation without a c letter
abbrev pub Good : Job → Type 0
Good j = PlainJob j × Accepted j

pub read_good : (bs : List ℕ) → Without bs → Same Good (read_job bs) (by.read_job former bs)
read_good bs without = and_known PlainJob Accepted (read_job bs) (read_job_same bs without) (job_accepted bs)

pub rename_unchanged : RenameUnchanged
unfolding rename_entry by.rename_entry
rename_unchanged bs room without =
    then_equal Good (read_good bs without) λ j ((left, right), known).
    let few = known.sides.few in
    ap (fitting room) (ap₂ ◌++◌ (terms_same j.left j.right few left right) (renamed_same j.left j.right few left right))

-- FIND's answer

step_same : (x : Line) → Plain x.result → step x ≡ by.step former x
unfolding step step_value by.step
step_same x h = rw (term_same x.result h)

flatMap_agree : {A B : Type 0} (f g : A → List B) (xs : List A) → ((x : A) → x ∈ xs → f x ≡ g x) → flat_map f xs ≡ flat_map g xs
unfolding flat_map
flatMap_agree f g [] h = refl
flatMap_agree f g (x ∷ xs) h = ap₂ ◌++◌ (h x (here refl)) (flatMap_agree f g xs (λ y i. h y (there i)))

module _ (j : Job) (good : Good j) where
  -- no line brings in a letter
  results_plain : (xs : List Line) (e n : ℕ) → searched j ≡ proved xs e n → (x : Line) → x ∈ xs → Plain x.result
  results_plain xs e n p x i =
      let ((left, right), known) = good in
      ⊎_elim (λ covers m k. left m (covers m k)) (λ (q : x.result ≡ j.right). rw q right)
      (proved_letters semiring j.limits j.left j.right (irreflexive term_order known.before) xs e n p x i)

  lines_same : (o : Outcome) → searched j ≡ o → outcome_lines semiring j o ≡ by.outcome_lines former semiring j o
  unfolding outcome_lines by.outcome_lines
  lines_same (proved xs e n) p =
      rw (
        term_same j.left good.0.0,
        term_same j.right good.0.1,
        flatMap_agree step (by.step former) xs (λ x i. step_same x (results_plain xs e n p x i)),
      )
  lines_same (unproved e n) p = rw (term_same j.left good.0.0, term_same j.right good.0.1)

  alone_same : (slots : ℕ) → alone slots j ≡ by.alone former slots j
  unfolding alone outcome_text by.alone
  alone_same slots = rw (lines_same (searched j) refl)

together_same : (slots : ℕ) (js : List Job) → ((j : Job) → j ∈ js → Good j) → together slots js ≡ by.together former slots js
unfolding together block by.together
together_same slots [] good = refl
together_same slots (j ∷ []) good = alone_same j (good j (here refl)) slots
together_same slots (j ∷ k ∷ ks) good =
    ap accepted
    (flatMap_agree (block slots) (λ i. printed (by.alone former slots i)) (j ∷ k ∷ ks) (λ i m. ap printed (alone_same i (good i m) slots)))

pub find_unchanged : FindUnchanged
unfolding find by.find
find_unchanged bs slots room without =
    then_equal (λ js. PlainJobs js × AllAccepted js)
    (and_known PlainJobs AllAccepted (read_find bs) (read_find_same bs without) (jobs_accepted bs)) λ js (plain, known).
    ap (λ a. ◌>>=◌ a (fitting room)) (together_same slots js (λ j i. (plain j i, known j i)))
