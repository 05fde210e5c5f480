-- By the present rule the definitions over a rule are those of the other files. A job without a c letter is read and refused as by the former
-- rule, and no side of an equation that is accepted has a c letter.
use Rattle.std.specs.Prelude.{ℕ, ◌+◌, ◌<◌, ◌≡◌, refl, ◌⊎◌, Bool, true, false, not, ◌&&◌, List, [], ◌∷◌, ◌++◌, map, length, eqb}
use Prim.Native.Char.{code}
use Rattle.std.proofs.Common.{arith, le-leb, sym, ◌∙◌, ap, ap₂, inl, inr, ⊎_elim}
use Rattle.std.proofs.Math.Option.{Option, none, some, bind as ◌then◌}
use Rattle.std.proofs.Math.Dec.{leb}
use Rattle.terms.specs.Lists.{◌∈◌, here, there, not-in-nil, only_one, cons-cases, in_left, in_right, append_cases, of_map}
use Rattle.terms.specs.Term.{Term, letter, zero, one, add, mul, order, size, same}
use Rattle.terms.specs.Letters.{letters, FIXED, rising}
use Rattle.terms.specs.Build.{Token, atom, next, build, single, read}
use Rattle.terms.specs.Theory.Letters.{below_all}
use Rattle.terms.specs.Theory.Build.{Written, read_written}
use Rattle.terms.specs.Theory.Equation.{orient_either}
use Rattle.search.specs.Line.{Limits}
use Rattle.text.specs.Bytes.{read_number, parted, pieces}
use Rattle.text.specs.TermText.{write_letter, items, write_term, letter_of, v_letter, c_letter, token, read_term}
use Rattle.text.specs.Answer.{Answer, refused, accepted, ◌>>=◌, require, or_refuse}
use Rattle.text.specs.Layout.{layout}
use Rattle.text.specs.Job.{Job, in_range, oriented, few, accept, read_one, read_job}
use Rattle.text.specs.FindJob.{layouts, read_terms, every, accept_each, read_find}
use Rattle.text.specs.Find.{find}
use Rattle.text.specs.Words.{words_entry}
use Rattle.text.specs.Rename.{rename_entry}
use Rattle.text.specs.Rule as by
use Rattle.text.specs.Former.{former_letter, former_token, former, ByPresent, Plain, PlainSide, Without, FindWithout}
use Rattle.text.specs.Theory.Numbers.{number_first, read_number_number}
use Rattle.text.specs.Theory.TermText.{write_v, letter_cases}
use Rattle.text.specs.Theory.Readable.{If_some, Spells, read_spells, read_writes}
use Rattle.text.specs.Theory.Accepted.{If_accepted, required_then}
use Rattle.text.specs.Theory.FindJobs.{accept_each_then}

pub by_present : ByPresent
unfolding find by.find words_entry by.words_entry rename_entry by.rename_entry
by_present = (λ bs slots room. refl, λ bs room. refl, λ bs room. refl)

-- an item stands for nothing by the former rule, or for the same as now

letter_same : (o : Option ℕ) → former_letter o ≡ v_letter o
unfolding former_letter letter_of
letter_same none = refl
letter_same (some n) =
    let counted : n ≡ 0 + n = omega arith in
    ap (λ m. elim (leb n 999) [ true ↦ some (atom (letter m)) | false ↦ none ]) counted

abbrev Either : {A : Type 0} → Option A → Option A → Type 0
Either o p = (o ≡ none) ⊎ (o ≡ p)

token_either : (p : List ℕ) → Either (former_token p) (token p)
unfolding former_token token
token_either [] = inr refl
token_either (b ∷ []) = inr refl
token_either (b ∷ c ∷ cs) = go (eqb b (code "v"))
  where
    go : (q : Bool) → Either {A = Token} (elim q [ true ↦ former_letter (read_number (c ∷ cs)) | false ↦ none ]) (elim q [
      | true ↦ v_letter (read_number (c ∷ cs))
      | false ↦ elim (eqb b (code "c")) [ true ↦ c_letter (read_number (c ∷ cs)) | false ↦ none ]
    ])
    go true = inr (letter_same (read_number (c ∷ cs)))
    go false = inl refl

next_none : (k : Option Token) → next k none ≡ none
unfolding next
next_none none = refl
next_none (some k) = refl

next_either : {k l : Option Token} {o p : Option (List Term)} → Either k l → Either o p → Either (next k o) (next l p)
unfolding next
next_either {o = o} (inl e) h = inl (ap (λ k. next k o) e)
next_either {k = k} (inr e) (inl f) = inl (ap (next k) f ∙ next_none k)
next_either (inr e) (inr f) = inr (ap₂ next e f)

build_either : (ps : List (List ℕ)) → Either (build former_token ps) (build token ps)
unfolding build
build_either [] = inr refl
build_either (p ∷ ps) = next_either (token_either p) (build_either ps)

read_either : (bs : List ℕ) → Either (by.read_term former bs) (read_term bs)
unfolding by.read_term read_term read single
read_either bs = ⊎_elim (λ e. inl (ap single e)) (λ e. inr (ap single e)) (build_either (pieces (code " ") bs))

-- and a term without c letters is read back by it, so that both rules read the same where no c letter is read

v_token : (n : ℕ) → n < FIXED → former_token (write_letter n) ≡ some (atom (letter n))
unfolding former_token former_letter
v_token n h =
    let (b, bs, d, _) = number_first n in
    ap former_token (write_v n h ∙ ap (λ l. code "v" ∷ l) d) ∙ ap (λ l. former_letter (read_number l)) (sym d)
    ∙ ap former_letter (read_number_number n) ∙ rw (le-leb n 999 (omega arith), former_letter)

v_written : Written former_token items (λ n. n < FIXED)
unfolding items former_token
v_written =
    record {
      letters = λ {n} h. (write_letter n, v_token n h, refl);
      zeros = (_, refl, refl);
      ones = (_, refl, refl);
      sums = (_, refl, λ s t. refl);
      products = (_, refl, λ s t. refl);
    }

pub read_same : (b : List ℕ) → PlainSide b → read_term b ≡ by.read_term former b
unfolding by.read_term read_term
read_same b free = go (read_term b) refl (read_spells (pieces (code " ") b))
  where
    go : (o : Option Term) → read_term b ≡ o → If_some (Spells (pieces (code " ") b)) o → o ≡ by.read_term former b
    go none e h = ⊎_elim sym (λ f. sym (f ∙ e)) (read_either b)
    go (some t) e (_, spelled) = sym (ap (read former_token) spelled ∙ read_written v_written t (free t e))

-- a side without the byte `c` is no term with a c letter, so that this can be seen of a text without reading its terms

letter_item : (t : Term) {n : ℕ} → n ∈ letters t → write_letter n ∈ items t
unfolding letters items
letter_item (letter m) i = here (ap write_letter (only_one i))
letter_item zero i = absurd (not-in-nil i)
letter_item one i = absurd (not-in-nil i)
letter_item (add s t) i =
    there (⊎_elim (λ j. in_left (items t) (letter_item s j)) (λ j. in_right (items s) (letter_item t j)) (append_cases (letters s) i))
letter_item (mul s t) i =
    there (⊎_elim (λ j. in_left (items t) (letter_item s j)) (λ j. in_right (items s) (letter_item t j)) (append_cases (letters s) i))

in_parted : (s : ℕ) (ps : List (List ℕ)) {p : List ℕ} {b : ℕ} → p ∈ ps → b ∈ p → b ∈ parted s ps
unfolding parted
in_parted s [] i j = absurd (not-in-nil i)
in_parted s (p ∷ []) i j = rw (only_one i) at j
in_parted s (p ∷ q ∷ qs) i j =
    ⊎_elim (λ e. in_left (s ∷ parted s (q ∷ qs)) (rw e at j)) (λ k. in_right p (there (in_parted s (q ∷ qs) k j))) (cons-cases i)

pub no_c : (b : List ℕ) → (code "c" ∈ b → ⊥) → PlainSide b
unfolding write_term
no_c b free t e n i =
    let written = (rw e at (read_writes b)).1 in
    letter_cases n (λ low _. low) (λ _ w. absurd (free (rw written (in_parted (code " ") (items t) (letter_item t i) (rw w (here refl))))))

-- the same answer, and what is accepted is so

abbrev pub Same : {A : Type 0} → (A → Type 0) → Answer A → Answer A → Type 0
Same P r q = (r ≡ q) × If_accepted P r

pub then_equal : {A B : Type 0} (Q : A → Type 0) {r q : Answer A} {f g : A → Answer B} → Same Q r q → ((x : A) → Q x → f x ≡ g x)
    → ◌>>=◌ r f ≡ ◌>>=◌ q g
unfolding ◌>>=◌
then_equal {A} Q {r} {f = f} {g = g} (e, known) h = go r known ∙ ap (λ r. ◌>>=◌ r g) e
  where
    go : (r : Answer A) → If_accepted Q r → ◌>>=◌ r f ≡ ◌>>=◌ r g
    go (refused n) k = refl
    go (accepted x) k = h x k

-- with what else is known
pub and_known : {A : Type 0} (P Q : A → Type 0) (r : Answer A) {q : Answer A} → Same P r q → If_accepted Q r → Same (λ x. P x × Q x) r q
and_known P Q (refused n) (e, p) k = (e, tt)
and_known P Q (accepted x) (e, p) k = (e, (p, k))

pub required_same : {B : Type 0} (P : B → Type 0) (n : ℕ) (b : Bool) (f g : Unit {0} → Answer B) → Same P (f tt) (g tt)
    → Same P (◌>>=◌ (require n b) f) (◌>>=◌ (require n b) g)
unfolding ◌>>=◌ require
required_same P n true f g s = s
required_same P n false f g s = (refl, tt)

pub found_same : {A B : Type 0} (P : B → Type 0) (n : ℕ) (o p : Option A) → o ≡ p → (f g : A → Answer B)
    → ((x : A) → o ≡ some x → Same P (f x) (g x)) → Same P (◌>>=◌ (or_refuse n o) f) (◌>>=◌ (or_refuse n p) g)
unfolding ◌>>=◌ or_refuse
found_same {A} P n o p e f g h = rw (← e) (go o refl)
  where
    go : (q : Option A) → o ≡ q → Same P (◌>>=◌ (or_refuse n q) f) (◌>>=◌ (or_refuse n q) g)
    go none k = (refl, tt)
    go (some x) k = h x k

-- equations without c letters

abbrev pub PlainJob : Job → Type 0
PlainJob j = Plain j.left × Plain j.right

abbrev pub PlainJobs : List Job → Type 0
PlainJobs js = (j : Job) → j ∈ js → PlainJob j

pub both_plain : (s t : Term) → Plain s → Plain t → (n : ℕ) → n ∈ letters s ++ letters t → n < FIXED
both_plain s t h k n i = ⊎_elim (h n) (k n) (append_cases (letters s) i)

every_same : (p q : Term → Bool) (ts : List Term) → ((t : Term) → t ∈ ts → p t ≡ q t) → every p ts ≡ every q ts
unfolding every
every_same p q [] h = refl
every_same p q (t ∷ ts) h = ap₂ ◌&&◌ (h t (here refl)) (every_same p q ts (λ u i. h u (there i)))

-- where all letters are v letters, both rules count them all
pub few_plain : (ns : List ℕ) → ((n : ℕ) → n ∈ ns → n < FIXED) → few ns ≡ by.few former ns
few_plain ns h = ap (λ ms. leb (length (rising ms)) 6) (below_all FIXED ns h)

module _ (s : Term) (plain : Plain s) (m : Limits) where
  oriented_plain : (t : Term) → Plain t → PlainJob (oriented s t m)
  unfolding oriented
  oriented_plain t k = orient_either (λ a b. Plain a × Plain b) order s t (plain, k) (k, plain)

  all_plain : (ts : List Term) → ((t : Term) → t ∈ ts → Plain t) → PlainJobs (map (λ t. oriented s t m) ts)
  all_plain ts each j i = let (t, k, e) = of_map (λ t. oriented s t m) ts i in rw e at (oriented_plain t (each t k))

  few_same : (t : Term) → Plain t → few (letters s ++ letters t) ≡ by.few former (letters s ++ letters t)
  few_same t k = few_plain (letters s ++ letters t) (both_plain s t plain k)

  accept_same : (t : Term) → Plain t → Same PlainJob (accept s t m) (by.accept former s t m)
  unfolding accept by.accept
  accept_same t k = (
    rw (few_same t k),
    required_then PlainJob 3 (leb (size s) 31 && leb (size t) 31) _ λ _.
        required_then PlainJob 4 (few (letters s ++ letters t)) _ λ _.
        required_then PlainJob 5 (in_range m) _ λ _.
        required_then PlainJob 6 (not (same s t)) _ λ _. oriented_plain t k,
  )

  accept_each_same : (ts : List Term) → ((t : Term) → t ∈ ts → Plain t) → Same PlainJobs (accept_each s ts m) (by.accept_each former s ts m)
  unfolding accept_each by.accept_each
  accept_each_same ts each = (
    rw (every_same (λ t. few (letters s ++ letters t)) (λ t. by.few former (letters s ++ letters t)) ts (λ t i. few_same t (each t i))),
    accept_each_then s m PlainJobs ts λ _ _. all_plain ts each,
  )

pub read_job_same : (bs : List ℕ) → Without bs → Same PlainJob (read_job bs) (by.read_job former bs)
unfolding read_job read_one by.read_job
read_job_same bs without =
    required_same PlainJob 1 (leb (length bs) 1024) _ _
    (found_same PlainJob 1 (layout bs) (layout bs) refl _ _ λ w laid.
    let (left, right) = without w laid in
    found_same PlainJob 2 (read_term w.left) (by.read_term former w.left) (read_same w.left left) _ _ λ s read-s.
    found_same PlainJob 2 (read_term w.right) (by.read_term former w.right) (read_same w.right right) _ _ λ t read-t.
    accept_same s (left s read-s) w.limits t (right t read-t))

-- the right sides of FIND's jobs

read_terms_same : (bs : List (List ℕ)) → ((b : List ℕ) → b ∈ bs → PlainSide b) → read_terms bs ≡ by.read_terms former bs
unfolding read_terms by.read_terms
read_terms_same [] free = refl
read_terms_same (b ∷ bs) free = rw (read_same b (free b (here refl)), read_terms_same bs (λ c i. free c (there i)))

-- each term is read from one of the texts
abbrev FromOne : List (List ℕ) → List Term → Type 0
FromOne bs ts = (t : Term) → t ∈ ts → (b : List ℕ) × b ∈ bs × (read_term b ≡ some t)

terms_from : (bs : List (List ℕ)) → If_some (FromOne bs) (read_terms bs)
unfolding read_terms ◌then◌
terms_from [] = λ t i. absurd (not-in-nil i)
terms_from (b ∷ bs) = go (read_term b) refl (read_terms bs) (terms_from bs)
  where
    go : (o : Option Term) → read_term b ≡ o → (p : Option (List Term)) → If_some (FromOne bs) p
        → If_some (FromOne (b ∷ bs)) (◌then◌ o (λ t. ◌then◌ p (λ ts. some (t ∷ ts))))
    go none e p h = tt
    go (some t) e none h = tt
    go (some t) e (some ts) h =
        λ u i. ⊎_elim (λ (f : u ≡ t). (b, here refl, e ∙ ap some (sym f))) (λ j. let (c, k, f) = h u j in (c, there k, f)) (cons-cases i)

pub read_find_same : (bs : List ℕ) → FindWithout bs → Same PlainJobs (read_find bs) (by.read_find former bs)
unfolding read_find by.read_find
read_find_same bs without =
    required_same PlainJobs 1 (leb (length bs) 4096) _ _
    (found_same PlainJobs 1 (layouts bs) (layouts bs) refl _ _ λ w laid.
    let (left, rights) = without w laid in
    required_same PlainJobs 9 (leb (length w.rights) 16) _ _
    (found_same PlainJobs 2 (read_term w.left) (by.read_term former w.left) (read_same w.left left) _ _ λ s read-s.
    found_same PlainJobs 2 (read_terms w.rights) (by.read_terms former w.rights) (read_terms_same w.rights rights) _ _ λ ts read-ts.
    accept_each_same s (left s read-s) w.limits ts λ t i. let (b, j, e) = (rw read-ts at (terms_from w.rights)) t i in rights b j t e))
