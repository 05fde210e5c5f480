-- What RENAME's lines say of equations that pass 1 to 6: which share `left` and `right`, which `wleft` and `wright`, and that its own lines
-- are renamed to themselves.
use Rattle.std.specs.Prelude.{ℕ, ◌+◌, ◌-◌, ◌≤◌, ◌<◌, ◌≡◌, refl, ◌↔◌, Bool, true, false, List, [], ◌∷◌, ◌++◌, length, take}
use Rattle.std.proofs.Common.{arith, sym, ◌∙◌, ap, ap₂, subst, inl, inr, ⊎_elim}
use Rattle.terms.specs.Lists.{◌∈◌, in_left, in_right, append_cases}
use Rattle.terms.specs.Equation.{Equation}
use Rattle.terms.specs.Term.{Term, order}
use Rattle.terms.specs.Letters.{letters}
use Rattle.terms.specs.Theory.Reflects.{Reflects, tests_agree}
use Rattle.terms.specs.Theory.Order.{tie_reflects}
use Rattle.terms.specs.Theory.Equation.{orient_either}
use Rattle.words.specs.Words.{Word, words}
use Rattle.words.specs.Rename.{canonical_terms, canonical_words}
use Rattle.words.specs.Shared.{Alike, AlikeWords}
use Rattle.words.specs.Theory.Order.{list_order}
use Rattle.words.specs.Theory.Shared.{shared_name, shared_words, renamed_alike, renamed_apart, renamed_letters, renamed_as_many, alike_sizes, turns_self, alike_words, alike_words_back, alike_agree}
use Rattle.search.specs.Line.{Limits}
use Rattle.text.specs.Bytes.{ascii}
use Rattle.text.specs.TermText.{write_term}
use Rattle.text.specs.Answer.{Answer, refused, accepted, fitting}
use Rattle.text.specs.Job.{Job, oriented, read_job, Fit}
use Rattle.text.specs.JobText.{job_lines, job_text, Passes}
use Rattle.text.specs.Words.{word_list}
use Rattle.text.specs.Rename.{term_lines, word_lines, rename_text, rename_entry}
use Rattle.text.specs.Entry.{returned, Call}
use Rattle.text.specs.Claims.{job_numbers}
use Rattle.text.specs.Shared.{Named, FourLines, Answers, HasName, EveryCall, Share, SharedName, SharedLines, SharedWords, Dashes, GivesBack}
use Rattle.text.specs.Theory.Printed.{term_apart, list_apart, dash_apart}
use Rattle.text.specs.Theory.JobText.{job_exact, passes_read}
use Rattle.text.specs.Theory.Accepted.{fitting_room, fitting_only, fitting_short}
use Rattle.text.specs.Theory.RenameText.{rename_prints, rename_refuses, word_value, words_lines, agree, left_value, right_value, wleft_value, wright_value, text_lines}
use Rattle.text.specs.Theory.Entry.{Numbered, read_numbered, rename_claims}

-- equations that share a name get the same four lines

pub agree_reflects : (s t : Term) → Reflects (words s ≡ words t) (agree s t)
agree_reflects s t = tie_reflects list_order (words s) (words t)

agree_back : (s t u v : Term) → AlikeWords (words s) (words t) (words u) (words v) → words u ≡ words v → words s ≡ words t
agree_back s t u v h = alike_agree (alike_words_back s t u v h)

alike_text : (s t u v : Term) → Alike s t u v → rename_text s t ≡ rename_text u v
alike_text s t u v h =
    let w = alike_words h in
    ap₂ ◌++◌ (ap term_lines ((shared_name s t u v).1 h))
    (words_lines (words s) (words t)
    ∙ ap₂ (λ b (e : Equation (List Word)). word_lines (word_value b e.left) (word_value b e.right))
    (tests_agree (agree s t) (agree u v) (agree_reflects s t) (agree_reflects u v) (alike_agree w) (agree_back s t u v w)) ((shared_words s t u v).1 w)
    ∙ sym (words_lines (words u) (words v)))

-- the renamed equation passes 2 to 4 where the equation does
pub renamed_fit : {s t : Term} → Fit s t → Fit (canonical_terms s t).left (canonical_terms s t).right
renamed_fit {s} {t} fit =
    let e = canonical_terms s t in
    let (small, small') = alike_sizes (renamed_alike s t) 31 fit.small_left fit.small_right in
    record {
      small_left = small;
      small_right = small';
      few = rw (← renamed_as_many s t) fit.few;
      readable_left = λ n i. readable n (in_left (letters e.right) i);
      readable_right = λ n i. readable n (in_right (letters e.left) i);
    }
  where
    readable : (n : ℕ) → n ∈ letters (canonical_terms s t).left ++ letters (canonical_terms s t).right → n ≤ 1099
    readable n i =
        ⊎_elim (λ h. omega (arith, fit.few)) (λ j. ⊎_elim (fit.readable_left n) (fit.readable_right n) (append_cases (letters s) j))
        (renamed_letters s t n i)

-- sides as they are stated, or in order
oriented_alike : (s t : Term) (m : Limits) → Alike s t (oriented s t m).left (oriented s t m).right
unfolding oriented
oriented_alike s t m = orient_either (Alike s t) order s t (inl (turns_self s t)) (inr (turns_self s t))

-- the answer to a job that passes

module _ {job : List ℕ} {s t : Term} {m : Limits} (p : Passes job s t m) where
  passes_prints : (room : ℕ) → rename_entry job room ≡ fitting room (rename_text s t)
  passes_prints room = rename_prints job room (passes_read p) ∙ ap (fitting room) (sym (alike_text s t _ _ (oriented_alike s t m)))

  module _ {out : List ℕ} {r : ℕ} {out' : List ℕ} (c : Call (rename_entry job (length out)) out r out') where
    answered_text : 100 ≤ r → rename_text s t ≡ take (r - 100) out'
    answered_text h = fitting_only (length out) (rename_text s t) (sym (passes_prints (length out)) ∙ (rename_claims job out c).text h)

    fitting_number : length (rename_text s t) ≤ length out → r ≡ 100 + length (rename_text s t)
    fitting_number h = c.number ∙ ap returned (passes_prints (length out) ∙ fitting_room (length out) (rename_text s t) h)

    short_number : length out < length (rename_text s t) → r ≡ 8
    short_number h = c.number ∙ ap returned (passes_prints (length out) ∙ fitting_short (length out) (rename_text s t) h)

  answers : Answers job (rename_text s t)
  answers =
      record {
        fits = λ out r out' c h. let n = fitting_number c h in (n, sym (answered_text c (omega arith)));
        short = λ out r out' c. short_number c;
      }

pub has_name : HasName
has_name job s t m p = (rename_text s t, answers p, (left_value s t, right_value s t, wleft_value s t, wright_value s t, text_lines s t))

-- a call that is not refused by 1 to 6
pub every_call : EveryCall
every_call job out r out' c passed = go (read_job job) refl (read_numbered job)
  where
    go : (x : Answer Job) → read_job job ≡ x → Numbered job_numbers x
        → (s : Term) × (t : Term) × (m : Limits) × Passes job s t m × (100 ≤ r → Named s t (take (r - 100) out'))
    go (refused n) e h = let number : r ≡ n = c.number ∙ ap returned (rename_refuses job (length out) e) in absurd (passed (rw number h))
    go (accepted j) e h =
        let (s, t, m, p, _) = (job_exact job j).0 e in
        (s, t, m, p, λ k. record { job = job; limits = m; passes = p; out = out; r = r; out' = out'; call = c; answered = k; text = refl })

-- a job that passes has such a call
pub passes_named : {job : List ℕ} {s t : Term} {m : Limits} → Passes job s t m → (a : List ℕ) × Named s t a × ((room : ℕ) × (rename_entry job room ≡ accepted a))
passes_named {job} {s} {t} {m} p =
    let a = rename_text s t in
    let c : Call (rename_entry job (length a)) a _ _ = record { number = refl; output = refl } in
    let (n, f) = (answers p).fits a _ _ c (omega arith) in (
      a,
      record { job = job; limits = m; passes = p; out = a; r = _; out' = _; call = c; answered = omega arith; text = sym f },
      (length a, passes_prints p (length a) ∙ fitting_room (length a) a (omega arith)),
    )

-- what a call tells

module _ {s t : Term} {a : List ℕ} (N : Named s t a) where
  named_text : a ≡ rename_text s t
  named_text = N.text ∙ sym (answered_text N.passes N.call N.answered)

  pub named_lines : FourLines a (left_value s t) (right_value s t) (wleft_value s t) (wright_value s t)
  named_lines = rw named_text (text_lines s t)

  named_fit : Fit (canonical_terms s t).left (canonical_terms s t).right
  named_fit = renamed_fit N.passes.sides

-- values that stand alone agree where they do
one_value : {xs ys : List (List ℕ)} {x y : List ℕ} → xs ≡ x ∷ [] → ys ≡ y ∷ [] → (xs ≡ ys) ↔ (x ≡ y)
one_value {x = x} {y = y} p q = (λ e. let f = sym p ∙ e ∙ q in let g : x ≡ y = cc in g, λ e. p ∙ ap (λ z. z ∷ []) e ∙ sym q)

equation_path : {A : Type 0} {d e : Equation A} → d.left ≡ e.left → d.right ≡ e.right → d ≡ e
equation_path p q i = record { left = p i; right = q i }

module _ {s t u v : Term} {a b : List ℕ} (N : Named s t a) (M : Named u v b) where
  A : FourLines a (left_value s t) (right_value s t) (wleft_value s t) (wright_value s t)
  A = named_lines N

  B : FourLines b (left_value u v) (right_value u v) (wleft_value u v) (wright_value u v)
  B = named_lines M

  same_names : Share "left=" "right=" a b → canonical_terms s t ≡ canonical_terms u v
  same_names (p, q) =
      equation_path (term_apart (named_fit N).readable_left (named_fit M).readable_left ((one_value A.left B.left).0 p))
      (term_apart (named_fit N).readable_right (named_fit M).readable_right ((one_value A.right B.right).0 q))

  share_names : canonical_terms s t ≡ canonical_terms u v → Share "left=" "right=" a b
  share_names e = (
    (one_value A.left B.left).1 (ap (λ (c : Equation Term). write_term c.left) e),
    (one_value A.right B.right).1 (ap (λ (c : Equation Term). write_term c.right) e),
  )

  share_words : Share "wleft=" "wright=" a b ↔ ((wleft_value s t ≡ wleft_value u v) × (wright_value s t ≡ wright_value u v))
  share_words = (
    λ (p, q). ((one_value A.wleft B.wleft).0 p, (one_value A.wright B.wright).0 q),
    λ (p, q). ((one_value A.wleft B.wleft).1 p, (one_value A.wright B.wright).1 q),
  )

pub names_exactly : SharedName
names_exactly s t u v a b N M = (λ h. (shared_name s t u v).0 (same_names N M h), λ h. share_names N M ((shared_name s t u v).1 h))

pub alike_lines : SharedLines
alike_lines s t u v a b N M h = named_text N ∙ alike_text s t u v h ∙ sym (named_text M)

-- the lines of words

words_values : (s t u v : Term) → (words s ≡ words t → ⊥)
    → ((wleft_value s t ≡ wleft_value u v) × (wright_value s t ≡ wright_value u v)) ↔ AlikeWords (words s) (words t) (words u) (words v)
words_values s t u v differ = go (agree s t) (agree_reflects s t) (agree u v) (agree_reflects u v)
  where
    e : Equation (List Word)
    e = canonical_words (words s) (words t)

    f : Equation (List Word)
    f = canonical_words (words u) (words v)

    go : (b : Bool) → Reflects (words s ≡ words t) b → (c : Bool) → Reflects (words u ≡ words v) c
        → ((word_value b e.left ≡ word_value c f.left) × (word_value b e.right ≡ word_value c f.right)) ↔ AlikeWords (words s) (words t) (words u) (words v)
    go true h c k = absurd (differ h)
    go false h true k = (λ (p, q). absurd (dash_apart e.left p), λ w. absurd (differ (agree_back s t u v w k)))
    go false h false k = (
      λ (p, q). (shared_words s t u v).0 (equation_path (list_apart e.left f.left p) (list_apart e.right f.right q)),
      λ w. let d = (shared_words s t u v).1 w in (ap (λ (x : Equation (List Word)). word_list x.left) d, ap (λ (x : Equation (List Word)). word_list x.right) d),
    )

pub words_exactly : SharedWords
words_exactly s t u v a b N M differ =
    let (only, all) = share_words N M in
    let (tells, gives) = words_values s t u v differ in
    (λ h. tells (only h), λ h. all (gives h))

dash_value : {P : Type 0} (b : Bool) → Reflects P b → (ws : List Word) → (word_value b ws ≡ ascii "-") ↔ P
dash_value true h ws = (λ e. h, λ p. refl)
dash_value false h ws = (λ e. absurd (dash_apart ws e), λ p. absurd (h p))

pub dashes_exactly : Dashes
dashes_exactly s t a N = (
  by_line (named_lines N).wleft (dash_value (agree s t) (agree_reflects s t) (canonical_words (words s) (words t)).left),
  by_line (named_lines N).wright (dash_value (agree s t) (agree_reflects s t) (canonical_words (words s) (words t)).right),
)
  where
    by_line : {P : Type 0} {xs : List (List ℕ)} {x : List ℕ} → xs ≡ x ∷ [] → (x ≡ ascii "-") ↔ P → (xs ≡ ascii "-" ∷ []) ↔ P
    by_line p (only, all) = (λ e. only ((one_value p refl).0 e), λ h. (one_value p refl).1 (all h))

-- RENAME's own lines

pub gives_back : GivesBack
unfolding job_text
gives_back s t a l r m N left right range = ((e.left, e.right, passes), subst (Answers (job_lines l r m)) (sym same) (answers passes))
  where
    e : Equation Term
    e = canonical_terms s t

    lines : job_lines l r m ≡ job_text e.left e.right m
    lines =
        ap₂ (λ x y. job_lines x y m) ((one_value left (named_lines N).left).0 refl) ((one_value right (named_lines N).right).0 refl)

    passes : Passes (job_lines l r m) e.left e.right m
    passes = record { text = lines; sides = named_fit N; limits = range; differ = renamed_apart s t N.passes.differ }

    same : a ≡ rename_text e.left e.right
    same = named_text N ∙ alike_text s t e.left e.right (renamed_alike s t)
