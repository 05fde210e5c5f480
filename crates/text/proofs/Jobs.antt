-- The lines of a job, the terms of its sides, and what becomes of them.
use Prim.Native.Nat.{ℕ, ◌≤◌, ◌<◌}
use native.Mathlib.Omega.{arith}
use mathlib.Core.Bool.{Bool, true, false, and-false}
use mathlib.Core.Logic.{⊎_elim}
use mathlib.Core.Option.{Option, none, some, none-ne-some}
use mathlib.Core.List.{List, [], ◌∷◌}
use mathlib.Core.Path.{◌≡◌, refl, sym, ap, subst, ◌∙◌}
use lib.Dec.{leb}
use lib.ListN.{length, take}
use borrow.Author.Tests.{le-leb, lt-leb}
use Rattle.std.specs.Prelude.{Result, Ok, Err}
use Rattle.terms.specs.Term.{Term, size}
use Rattle.terms.specs.Held.{IsRun}
use Rattle.terms.specs.Theory.Held.{size_of}
use Rattle.terms.specs.Theory.Order.{below?}
use Rattle.search.specs.Line.{Limits}
use Rattle.search.specs.Runs.{HeldRuns, term_at}
use Rattle.text.specs.declared.refusal.Refusal.{Refusal}
use Rattle.text.specs.declared.refusal.Refusal.TheVariants as refusal
use Rattle.text.specs.declared.job.accept.Read.{Read}
use Rattle.text.specs.declared.job.written.Written.{Written}
use Rattle.text.specs.Refusal.{number_of}
use Rattle.text.specs.Answer.{Answer, refused, accepted, ◌>>=◌, require, or_refuse}
use Rattle.text.specs.TermText.{read_term}
use Rattle.text.specs.Layout.{Layout, layout, keyed, limit_lines}
use Rattle.text.specs.Job.{Job, read_one, read_job}
use Rattle.text.specs.FindJob.{Layouts, layouts, repeated, read_terms, all_small, accept_each, read_find, jobs_of}
use Rattle.text.specs.SideRead.{TermRead}
use Rattle.text.specs.RightLines.{rights_in}
use Rattle.text.specs.LayoutRead.{sides_with, LaidOut}
use Rattle.text.specs.Accepting.{Answers, jobs_in, small_terms, AcceptsSides, ReadsSides, read_within, ReadsFind, ReadsJob}
use Rattle.text.specs.Theory.Keyed.{some_then}
use Rattle.text.specs.Theory.OneRight.{with_one, layout_layouts, read_as_one}
use Rattle.text.proofs.Rights.{term_sized, terms_counted}
use Rattle.text.proofs.Accepts.{one_large}

-- the sides of a text that is well formed

-- where a right side is refused, so is the job
right_refused : (s : Term) (values : List (List ℕ)) (m : Limits) {k : ℕ} → small_terms values ≡ refused k
    → ◌>>=◌ (or_refuse 2 (read_terms values)) (λ ts. accept_each s ts m) ≡ refused k
unfolding ◌>>=◌ or_refuse require
right_refused s values m {k} = go (read_terms values)
  where
    large : (ts : List Term) (b : Bool) → all_small ts ≡ b → ◌>>=◌ (require 3 b) (λ _. accepted ts) ≡ refused k → accept_each s ts m ≡ refused k
    large ts true e h = let z : ◌≡◌ {A = ℕ} 0 1 = cc in absurd (omega (arith, z))
    large ts false e h =
        let f : ◌≡◌ {A = ℕ} 3 k = cc in
        one_large s ts m (rw e (and-false (leb (size s) 31))) ∙ ap refused f

    go : (o : Option (List Term)) → ◌>>=◌ (or_refuse 2 o) (λ ts. ◌>>=◌ (require 3 (all_small ts)) (λ _. accepted ts)) ≡ refused k
        → ◌>>=◌ (or_refuse 2 o) (λ ts. accept_each s ts m) ≡ refused k
    go none h = let f : ◌≡◌ {A = ℕ} 2 k = cc in ap refused f
    go (some ts) h = large ts (all_small ts) refl h

-- terms that are accepted were read, and are small
rights_accepted : (values : List (List ℕ)) {ts : List Term} → small_terms values ≡ accepted ts → (read_terms values ≡ some ts) × (all_small ts ≡ true)
unfolding ◌>>=◌ or_refuse require
rights_accepted values {ts} = go (read_terms values)
  where
    small : (us : List Term) (b : Bool) → all_small us ≡ b → ◌>>=◌ (require 3 b) (λ _. accepted us) ≡ accepted ts → (some us ≡ some ts) × (all_small ts ≡ true)
    small us true e h = let f : us ≡ ts = cc in (ap some f, ap all_small (sym f) ∙ e)
    small us false e h = let z : ◌≡◌ {A = ℕ} 0 1 = cc in absurd (omega (arith, z))

    go : (o : Option (List Term)) → ◌>>=◌ (or_refuse 2 o) (λ us. ◌>>=◌ (require 3 (all_small us)) (λ _. accepted us)) ≡ accepted ts
        → (o ≡ some ts) × (all_small ts ≡ true)
    go none h = let z : ◌≡◌ {A = ℕ} 0 1 = cc in absurd (omega (arith, z))
    go (some us) h = small us (all_small us) refl h

module _ (w : Written) where
  pub foul_left : {rights : List ℕ} → read_term w.left.now ≡ none → ReadsSides w (Err refusal.NoTerm) rights
  unfolding ◌>>=◌ or_refuse
  foul_left h = record { exact = λ m e. rw h }

  module _ {run : List ℕ} {n : ℕ} (a : TermRead w.left.now run n) where
    pub foul_right : {rights : List ℕ} {e : Refusal} → small_terms (rights_in w.lines.now w.rights) ≡ refused (number_of e) → ReadsSides w (Err e) rights
    unfolding ◌>>=◌ or_refuse
    foul_right h = record { exact = λ m e. rw a.read (right_refused a.term (rights_in w.lines.now w.rights) m h) }

    module _ {ts : List Term} (h : small_terms (rights_in w.lines.now w.rights) ≡ accepted ts) where
      both_read : (m : Limits) → jobs_in (sides_with w m) ≡ accept_each a.term ts m
      unfolding ◌>>=◌ or_refuse
      both_read m = rw a.read (rw (rights_accepted (rights_in w.lines.now w.rights) h).0)

      pub large_left : {rights : List ℕ} → 31 < n → ReadsSides w (Err refusal.TooLarge) rights
      large_left l =
          record { exact = λ m e. both_read m ∙ one_large a.term ts m (rw (lt-leb (size a.term) 31 (omega (arith, term_sized a)))) }

      pub sides_read : {xs rights rights' : List ℕ} → HeldRuns rights ts → xs ≡ take n run → length xs ≤ 31
          → {r : Result Read Refusal} → AcceptsSides xs w.rights w.limits rights r rights' → ReadsSides w r rights'
      sides_read {xs} {rights} {rights'} held same l {r} accepts =
          let known = rights_accepted (rights_in w.lines.now w.rights) h in
          let u : IsRun xs a.term = rw same a.whole in
          record {
            exact = λ m e.
                subst (λ x. Answers x r rights') (sym (both_read m))
                (accepts.exact a.term ts m u held (terms_counted (rights_in w.lines.now w.rights) known.0 ∙ w.counted) (omega (arith, size_of u)) known.1 e);
          }

-- the lines

module _ (bytes most over : ℕ) (bs : List ℕ) where
  pub too_long : bytes < length bs → read_within bytes most over bs ≡ refused 1
  unfolding ◌>>=◌ require
  too_long h = rw (lt-leb (length bs) bytes h)

  module _ (short : length bs ≤ bytes) where
    pub malformed : layouts bs ≡ none → read_within bytes most over bs ≡ refused 1
    unfolding ◌>>=◌ require or_refuse
    malformed h = rw (le-leb (length bs) bytes short) (rw h)

    module _ {w : Layouts} (e : layouts bs ≡ some w) where
      over_many : most < length w.rights → read_within bytes most over bs ≡ refused over
      unfolding ◌>>=◌ require or_refuse
      over_many h = rw (le-leb (length bs) bytes short) (rw e (rw (lt-leb (length w.rights) most h)))

      within : length w.rights ≤ most → read_within bytes most over bs ≡ jobs_in w
      unfolding ◌>>=◌ require or_refuse
      within h = rw (le-leb (length bs) bytes short) (rw e (rw (le-leb (length w.rights) most h)))

    module _ (w : Written) (o : LaidOut bs w) where
      pub many_rights : most < w.rights → read_within bytes most over bs ≡ refused over
      many_rights h = over_many o.lines (omega (arith, h, w.counted))

      pub text_read : w.rights ≤ most → (r : Result Read Refusal) (rights : List ℕ) → ReadsSides w r rights → Answers (read_within bytes most over bs) r rights
      text_read h r rights sides =
          subst (λ x. Answers x r rights) (sym (within o.lines (omega (arith, h, w.counted)))) (sides.exact o.limits o.is)

-- a job of FIND

find_within : (bs : List ℕ) → read_find bs ≡ read_within 4096 16 9 bs
unfolding read_find
find_within bs = refl

pub find_read : (bs : List ℕ) (r : Result Read Refusal) (rights : List ℕ) → Answers (read_within 4096 16 9 bs) r rights → ReadsFind bs r rights
find_read bs r rights h = subst (λ x. Answers x r rights) (sym (find_within bs)) h

pub short_find_read : (bs : List ℕ) → length bs ≤ 512 → (r : Result Read Refusal) (rights : List ℕ) → Answers (read_within 512 16 9 bs) r rights → ReadsFind bs r rights
short_find_read bs l r rights h = find_read bs r rights (subst (λ x. Answers x r rights) same h)
  where
    same : read_within 512 16 9 bs ≡ read_within 4096 16 9 bs
    same = rw (le-leb (length bs) 512 l, le-leb (length bs) 4096 (omega arith))

-- the job of WORDS, RENAME and SAME

-- of the list of jobs the first
first_job : (j : Job) (s : Term) (ts : List Term) (m : Limits) → 0 < length ts → j ∷ [] ≡ jobs_of s ts m → (j.left ≡ s) × (j.right ≡ term_at ts 0)
first_job j s [] m h e = absurd (omega (arith, h))
first_job j s (t ∷ ts) m h e =
    let f : ◌≡◌ {A = Job} j (record { left = s; right = t; limits = m }) = cc in
    (ap (λ (x : Job). x.left) f, ap (λ (x : Job). x.right) f)

-- what is said of the list of one job is said of the job
of_one : (bs : List ℕ) (a : Answer Job) → read_job bs ≡ a → (r : Result Read Refusal) (rights : List ℕ)
    → Answers (◌>>=◌ a (λ j. accepted (j ∷ []))) r rights → ReadsJob bs r rights
unfolding ◌>>=◌
of_one bs (refused k) e (Err n) rights h = let f : k ≡ number_of n = cc in e ∙ ap refused f
of_one bs (refused k) e (Ok j) rights h = let z : ◌≡◌ {A = ℕ} 0 1 = cc h.accepted in absurd (omega (arith, z))
of_one bs (accepted j) e (Err n) rights h = let z : ◌≡◌ {A = ℕ} 0 1 = cc in absurd (omega (arith, z))
of_one bs (accepted job) e (Ok j) rights h =
    let first : job ∷ [] ≡ jobs_of h.side h.others h.limits = cc h.accepted in
    let counted : 0 < length h.others = omega (arith, h.count, h.some_rights) in
    let sides = first_job job h.side h.others h.limits counted first in
    record { job = job; accepted = e; left_run = rw sides.0 h.run; right_run = rw sides.1 (h.runs.spelled 0 counted) }

-- the list of one job, or a refusal
abbrev as_list : Answer Job → Answer (List Job)
as_list a = ◌>>=◌ a (λ j. accepted (j ∷ []))

-- there is a right side
some_right : (bs : List ℕ) {w : Layouts} → layouts bs ≡ some w → 0 < length w.rights
unfolding layouts
some_right bs {w} e =
    some_then (keyed "left=" bs) _ e λ a left e.
    some_then (keyed "right=" a.rest) _ e λ r right e.
    some_then (limit_lines (repeated "right=" (length r.rest) r.rest).rest) _ e λ m limits e.
    omega (arith, ap (λ (x : Option Layouts). length (rights_of x)) e)
  where
    rights_of : Option Layouts → List (List ℕ)
    rights_of none = []
    rights_of (some w) = w.rights

-- a text that is not the six lines of a job is refused by 1
module _ (bs : List ℕ) where
  job_long : 1024 < length bs → read_job bs ≡ refused 1
  unfolding read_job read_one ◌>>=◌ require
  job_long h = rw (lt-leb (length bs) 1024 h)

  module _ (short : length bs ≤ 1024) where
    not_one : ((l : Layout) → layouts bs ≡ some (with_one l) → ⊥) → read_job bs ≡ refused 1
    unfolding read_job read_one ◌>>=◌ require or_refuse
    not_one h = rw (le-leb (length bs) 1024 short) (rw (go (layout bs) refl))
      where
        go : (o : Option Layout) → layout bs ≡ o → layout bs ≡ none
        go none e = e
        go (some l) e = absurd (h l (layout_layouts bs l e))

    same_bound : read_one 4096 bs ≡ read_job bs
    unfolding read_job read_one
    same_bound = rw (le-leb (length bs) 4096 (omega arith), le-leb (length bs) 1024 short)

    by_lines : (o : Option Layouts) → layouts bs ≡ o → read_within 1024 1 1 bs ≡ as_list (read_job bs)
    unfolding ◌>>=◌
    by_lines none e = malformed 1024 1 1 bs short e ∙ ap as_list (sym (not_one λ l f. none-ne-some (with_one l) (sym e ∙ f)))
    by_lines (some w) e = ⊎_elim one several (below? (length w.rights) 2)
      where
        one : length w.rights < 2 → read_within 1024 1 1 bs ≡ as_list (read_job bs)
        one l =
            let single : length w.rights ≡ 1 = omega (arith, l, some_right bs e) in
            within 1024 1 1 bs short e (omega (arith, single))
            ∙ sym (find_within bs ∙ within 4096 16 9 bs (omega arith) e (omega (arith, single)))
            ∙ read_as_one bs (rw e single)
            ∙ ap as_list same_bound

        several : 2 ≤ length w.rights → read_within 1024 1 1 bs ≡ as_list (read_job bs)
        several l =
            over_many 1024 1 1 bs short e l
            ∙ ap as_list (sym (not_one λ q f. omega (arith, l, ap (λ (x : Layouts). length x.rights) (let g : w ≡ with_one q = cc in g))))

  one_within : read_within 1024 1 1 bs ≡ as_list (read_job bs)
  unfolding ◌>>=◌
  one_within = ⊎_elim (λ l. too_long 1024 1 1 bs l ∙ ap as_list (sym (job_long l))) (λ h. by_lines h (layouts bs) refl) (below? 1024 (length bs))

  pub job_read : (r : Result Read Refusal) (rights : List ℕ) → Answers (read_within 1024 1 1 bs) r rights → ReadsJob bs r rights
  job_read r rights h = of_one bs (read_job bs) refl r rights (subst (λ x. Answers x r rights) one_within h)

-- what the job's text gives: it is too long, has no layout or too many right sides, or is read
pub ruleset within_read = (too_long, malformed, many_rights, text_read)
