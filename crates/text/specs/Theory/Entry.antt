-- The claims hold of every call of an entry.
use Rattle.std.specs.Prelude.{ℕ, ◌-◌, ◌<◌, ◌≡◌, refl, Bool, not, ◌&&◌, leb, length, drop}
use Rattle.std.proofs.Common.{arith, sym, ap, subst, ◌∙◌, ⊎_elim}
use Rattle.std.proofs.Math.Bool.{true, false}
use Rattle.std.proofs.Math.Option.{Option, none, some}
use mathlib.Core.List.{List, [], ◌∷◌, ◌++◌}
use Rattle.std.proofs.Math.Seq.{take-append_seam, drop-append_seam}
use Rattle.terms.specs.Lists.{◌∈◌, here, there, not-in-nil, cons-cases, in_left}
use Rattle.terms.specs.Term.{Term, size, same}
use Rattle.terms.specs.Letters.{letters}
use Rattle.words.specs.Words.{words}
use Rattle.words.specs.Same.{same_words}
use Rattle.search.specs.Search.{noted}
use Rattle.search.specs.Searched.{slots_of}
use Rattle.text.specs.TermText.{read_term}
use Rattle.text.specs.Layout.{layout}
use Rattle.text.specs.Answer.{Answer, refused, accepted, ◌>>=◌, require, or_refuse, fitting}
use Rattle.text.specs.Job.{Job, in_range, few, accept, read_one, read_job}
use Rattle.text.specs.FindJob.{layouts, read_terms, every, in_place, all_small, accept_each, read_find}
use Rattle.text.specs.Find.{searched, alone, together, find}
use Rattle.text.specs.Words.{same_text, words_text, words_entry}
use Rattle.text.specs.Rename.{rename_text, rename_entry}
use Rattle.text.specs.Same.{same_entry}
use Rattle.text.specs.Entry.{returned, output_after, Call, before_search, FindCall}
use Rattle.text.specs.Claims.{job_numbers, list_numbers, find_numbers, CallClaims, FindClaims}
use Rattle.text.specs.Theory.Blocks.{answered}

-- what finds a number in a list
pub ruleset among = (here, there)

-- a refusal has one of these numbers
abbrev pub Numbered : {A : Type 0} → List ℕ → Answer A → Type 0
Numbered ns (refused n) = n ∈ ns
Numbered ns (accepted x) = Unit {0}

-- each refusal in a row of them has such a number
module _ (ns : List ℕ) {A B : Type 0} where
  pub numbered_then : (a : Answer A) (f : A → Answer B) → Numbered ns a → ((x : A) → Numbered ns (f x)) → Numbered ns (◌>>=◌ a f)
  unfolding ◌>>=◌
  numbered_then (refused n) f h k = h
  numbered_then (accepted x) f h k = k x

  pub numbered_or : (n : ℕ) (o : Option A) (f : A → Answer B) → n ∈ ns → ((x : A) → Numbered ns (f x)) → Numbered ns (◌>>=◌ (or_refuse n o) f)
  unfolding ◌>>=◌ or_refuse
  numbered_or n none f h k = h
  numbered_or n (some x) f h k = k x

module _ (ns : List ℕ) {B : Type 0} where
  pub numbered_require : (n : ℕ) (b : Bool) (f : Unit {0} → Answer B) → n ∈ ns → Numbered ns (f tt) → Numbered ns (◌>>=◌ (require n b) f)
  unfolding ◌>>=◌ require
  numbered_require n true f h k = k
  numbered_require n false f h k = h

  -- and one of a longer list
  pub numbered_among : (ms : List ℕ) (a : Answer B) → ((n : ℕ) → n ∈ ms → n ∈ ns) → Numbered ms a → Numbered ns a
  numbered_among ms (refused n) wider h = wider n h
  numbered_among ms (accepted x) wider h = tt

pub read_numbered : (bs : List ℕ) → Numbered job_numbers (read_job bs)
unfolding read_job read_one accept
read_numbered bs =
    numbered_require ns 1 (leb (length bs) 1024) _ (search among)
    (numbered_or ns 1 (layout bs) _ (search among) λ j.
    numbered_or ns 2 (read_term j.left) _ (search among) λ s.
    numbered_or ns 2 (read_term j.right) _ (search among) λ t.
    numbered_require ns 3 (leb (size s) 31 && leb (size t) 31) _ (search among)
    (numbered_require ns 4 (few (letters s ++ letters t)) _ (search among)
    (numbered_require ns 5 (in_range j.limits) _ (search among depth 9)
    (numbered_require ns 6 (not (same s t)) _ (search among depth 9) tt))))
  where
    ns : List ℕ
    ns = job_numbers

pub read_find_numbered : (bs : List ℕ) → Numbered before_search (read_find bs)
unfolding read_find accept_each
read_find_numbered bs =
    numbered_require ns 1 (leb (length bs) 4096) _ (search among)
    (numbered_or ns 1 (layouts bs) _ (search among) λ j.
    numbered_require ns 9 (leb (length j.rights) 16) _ (search among)
    (numbered_or ns 2 (read_term j.left) _ (search among) λ s.
    numbered_or ns 2 (read_terms j.rights) _ (search among) λ ts.
    numbered_require ns 3 (leb (size s) 31 && all_small ts) _ (search among)
    (numbered_require ns 4 (every (λ t. few (letters s ++ letters t)) ts) _ (search among depth 9)
    (numbered_require ns 5 (in_range j.limits) _ (search among depth 9)
    (numbered_require ns 6 (every (λ t. not (same s t)) ts) _ (search among depth 9)
    (numbered_require ns 10 (in_place s ts) _ (search among depth 9) tt))))))
  where
    ns : List ℕ
    ns = before_search

-- what is read is refused by the numbers that follow
module _ {A B : Type 0} (ms ns : List ℕ) where
  pub numbered_first : (a : Answer A) (f : A → Answer B) → Numbered ms a → ((x : A) → Numbered (ms ++ ns) (f x)) → Numbered (ms ++ ns) (◌>>=◌ a f)
  numbered_first a f h = numbered_then (ms ++ ns) a f (numbered_among (ms ++ ns) ms a (λ n i. in_left ns i) h)

pub job_numbered : {A : Type 0} (ns bs : List ℕ) (f : Job → Answer A) → ((j : Job) → Numbered (job_numbers ++ ns) (f j))
    → Numbered (job_numbers ++ ns) (◌>>=◌ (read_job bs) f)
job_numbered ns bs f = numbered_first job_numbers ns (read_job bs) f (read_numbered bs)

pub fitting_numbered : (ns : List ℕ) (room : ℕ) (t : List ℕ) → 8 ∈ ns → Numbered ns (fitting room t)
unfolding fitting
fitting_numbered ns room t i = numbered_require ns 8 (leb (length t) room) _ i tt

-- what follows the reading of FIND's text
module _ (ns : List ℕ) (seven : 7 ∈ ns) (eight : 8 ∈ ns) where
  together_numbered : (slots : ℕ) (js : List Job) → Numbered ns (together slots js)
  unfolding together alone
  together_numbered slots [] = tt
  together_numbered slots (j ∷ []) = numbered_require ns 7 (leb (noted (searched j)) slots) _ seven tt
  together_numbered slots (j ∷ k ∷ ks) = tt

  pub searched_numbered : (slots room : ℕ) (js : List Job) → Numbered ns (◌>>=◌ (together slots js) (fitting room))
  searched_numbered slots room js =
      numbered_then ns (together slots js) (fitting room) (together_numbered slots js) λ t. fitting_numbered ns room t eight

find_numbered : (bs : List ℕ) (slots room : ℕ) → Numbered find_numbers (find bs slots room)
unfolding find
find_numbered bs slots room =
    numbered_first before_search (7 ∷ 8 ∷ []) (read_find bs) _ (read_find_numbered bs)
    (searched_numbered find_numbers (search among depth 11) (search among depth 11) slots room)

-- a text of two terms answers the job, or there is no room
text_numbered : (text : Term → Term → List ℕ) (bs : List ℕ) (room : ℕ)
    → Numbered list_numbers (◌>>=◌ (read_job bs) (λ j. fitting room (text j.left j.right)))
text_numbered text bs room = job_numbered (8 ∷ []) bs _ λ j. fitting_numbered list_numbers room (text j.left j.right) (search among depth 9)

words_numbered : (bs : List ℕ) (room : ℕ) → Numbered list_numbers (words_entry bs room)
unfolding words_entry
words_numbered = text_numbered (λ s t. words_text (words s) (words t))

rename_numbered : (bs : List ℕ) (room : ℕ) → Numbered list_numbers (rename_entry bs room)
unfolding rename_entry
rename_numbered = text_numbered rename_text

same_numbered : (bs : List ℕ) (room : ℕ) → Numbered list_numbers (same_entry bs room)
unfolding same_entry
same_numbered = text_numbered (λ s t. same_text (same_words s t))

-- what holds of each number of a list
module _ (P : ℕ → Type 0) where
  -- P holds of each number
  abbrev pub Each : List ℕ → Type 0
  Each [] = Unit {0}
  Each (n ∷ ns) = P n × Each ns

  pub each_in : (ns : List ℕ) → Each ns → {n : ℕ} → n ∈ ns → P n
  each_in [] h i = absurd (not-in-nil i)
  each_in (m ∷ ns) (h, k) i = ⊎_elim (λ e. subst P (sym e) h) (λ j. each_in ns k j) (cons-cases i)

-- each number is below 100, as a refusal has it
abbrev pub Low : List ℕ → Type 0
Low = Each (λ n. n < 100)

module _ {ns : List ℕ} {given : Answer (List ℕ)} {out : List ℕ} {r : ℕ} {out' : List ℕ} where
  by_answer : (a : Answer (List ℕ)) → given ≡ a → Low ns → Numbered ns a → r ≡ returned a → out' ≡ output_after out a → CallClaims ns given out r out'
  by_answer (refused n) e low i number output =
      let small = each_in (λ n. n < 100) ns low i in
      record {
        refusal = (λ h. e ∙ ap refused (sym number), λ h. omega arith);
        numbered = λ h. rw number i;
        untouched = λ h. output;
        text = λ h. absurd (omega arith);
        kept = λ h. absurd (omega arith);
      }
  by_answer (accepted t) e low h number output =
      let size : r - 100 ≡ length t = omega arith in
      record {
        refusal = (λ h. absurd (omega arith), λ (h : given ≡ refused r). absurd (let z : ◌≡◌ {A = ℕ} 0 1 = cc in omega arith));
        numbered = λ h. absurd (omega arith);
        untouched = λ h. absurd (omega arith);
        text = λ h. rw (size, output, take-append_seam t (drop (length t) out)) e;
        kept = λ h. rw (size, output, drop-append_seam t (drop (length t) out));
      }

  pub call_claims : Low ns → Numbered ns given → Call given out r out' → CallClaims ns given out r out'
  call_claims low h c = by_answer given refl low h c.number c.output

-- what the numbers mean, of each entry
module _ (job out : List ℕ) {r : ℕ} {out' : List ℕ} where
  pub words_claims : Call (words_entry job (length out)) out r out' → CallClaims list_numbers (words_entry job (length out)) out r out'
  words_claims = call_claims (search arith depth 12) (words_numbered job (length out))

  pub rename_claims : Call (rename_entry job (length out)) out r out' → CallClaims list_numbers (rename_entry job (length out)) out r out'
  rename_claims = call_claims (search arith depth 12) (rename_numbered job (length out))

  pub same_claims : Call (same_entry job (length out)) out r out' → CallClaims list_numbers (same_entry job (length out)) out r out'
  same_claims = call_claims (search arith depth 12) (same_numbered job (length out))

  -- and demand 3 of every answer of FIND that is not refused
  pub find_claims : {work work' : List ℕ} → FindCall job out work r out' work' → FindClaims job out work r out'
  find_claims {work} c =
      let call = call_claims (search arith depth 12) (find_numbered job (slots_of (length work)) (length out)) c.call in
      record { call = call; answered = λ h. answered job (slots_of (length work)) (length out) _ (call.text h) }
