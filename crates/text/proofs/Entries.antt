-- The entries, by what became of the job.
use Prim.Native.Nat.{ℕ, ◌+◌, ◌^◌, ◌≤◌, ◌<◌}
use native.Mathlib.Omega.{arith}
use mathlib.Core.Path.{◌≡◌, refl, ap}
use mathlib.Core.List.{List, [], ◌∷◌, ◌++◌}
use lib.ListN.{length, drop, length-append}
use Rattle.std.specs.Prelude.{Result, Ok, Err, IfOk}
use Rattle.std.specs.Borrow.{MutBor}
use Rattle.terms.specs.Lists.{◌∈◌}
use Rattle.terms.specs.Term.{Term, size}
use Rattle.terms.specs.Letters.{letters, rising, variables}
use Rattle.terms.specs.Held.{IsRun}
use Rattle.words.specs.Words.{words}
use Rattle.words.specs.Rename.{canonical_terms}
use Rattle.words.specs.Same.{same_words}
use Rattle.search.specs.Line as line
use Rattle.search.specs.Runs.{HeldRuns, Shows}
use Rattle.search.specs.Searched.{limits_of, slots_of}
use Rattle.text.specs.declared.answer.Sides.{Sides}
use Rattle.text.specs.declared.refusal.Refusal.{Refusal}
use Rattle.text.specs.Refusal.{number_of, number_returned}
use Rattle.text.specs.Answer.{Answer, ◌>>=◌, refused, accepted, fitting}
use Rattle.text.specs.Job.{Job, read_job, Fit, Accepted}
use Rattle.text.specs.FindJob.{read_find, jobs_of}
use Rattle.text.specs.Accepting.{Takes, TakesOne}
use Rattle.text.specs.Find.{together, find}
use Rattle.text.specs.Words.{same_text, words_text, words_entry}
use Rattle.text.specs.Rename.{term_lines, renamed_words, rename_entry}
use Rattle.text.specs.Same.{same_entry}
use Rattle.text.specs.Entry.{returned, Call, Gives, AnswersJob, before_search, FindGives}
use Rattle.text.specs.Theory.JobText.{job_accepted}
use Rattle.text.specs.Theory.Entry.{among, Numbered, searched_numbered, Each, each_in}
use Rattle.text.specs.declared.job.accept.Read.{Read}

-- what is known of an accepted job
accepted_job : (bs : List ℕ) (j : Job) → read_job bs ≡ accepted j → Accepted j
accepted_job bs j e = rw e at (job_accepted bs)

-- what is given beneath an entry is what a call of the entry gives
pub call_of : (answer : Answer (List ℕ)) (out : List ℕ) (r : Result ℕ Refusal) {out' : List ℕ} → Gives answer out r out' → Call answer out (number_returned r) out'
call_of answer out (Ok n) (t, e, k, f) = record { number = rw (e, k) refl; output = rw e f }
call_of answer out (Err e) (f, g) = record { number = rw f refl; output = rw f g }

-- an answer is no longer than the output
pub gives_fitting : (answer : Answer (List ℕ)) (out : List ℕ) (r : Result ℕ Refusal) (out' : List ℕ) → Gives answer out r out' → length out' < 2 ^ 63
    → IfOk r (λ n. n + 100 < 2 ^ 64)
gives_fitting answer out (Ok n) out' (t, e, k, f) h = omega (arith, h, k, ap length f, length-append t (drop (length t) out))
gives_fitting answer out (Err e) out' g h = tt

-- a refused job is refused by its number, whatever was asked for; an accepted one is answered from the runs of its sides, right's in slot 0
module _ {Post : Sides → MutBor (List ℕ) → Result ℕ Refusal → MutBor (List ℕ) → Type 0} (job : List ℕ) where
  pub job_refused : (out : List ℕ) {e : Refusal} → read_job job ≡ refused (number_of e) → AnswersJob Post job out (Err e) out
  unfolding ◌>>=◌
  job_refused out h = record { exact = λ answer gives. rw h (refl, refl) }

  pub job_answered : {rights : List ℕ} {j : Read} → TakesOne (read_job job) j rights → (sides : Sides) → sides.left.now ≡ j.left → Shows rights 0 sides.right.now
      → (o o' : MutBor (List ℕ)) (r : Result ℕ Refusal) → Post sides o r o' → AnswersJob Post job o.now r o'.now
  unfolding ◌>>=◌
  job_answered h sides e shown o o' r post =
      record {
        exact = λ answer gives.
            rw h.accepted
            (gives h.job sides o o' r (accepted_job job h.job h.accepted) (rw e h.left_run) (shown.exact h.job.right h.right_run) refl post);
      }

module _ {Post : Sides → MutBor (List ℕ) → Result ℕ Refusal → MutBor (List ℕ) → Type 0} (job out : List ℕ) (r : Result ℕ Refusal) {out' : List ℕ} (h : AnswersJob Post job out r out') where
  -- what is promised of a function that answers by a text of the two terms
  text_given : (text : Term → Term → List ℕ)
      → ((sides : Sides) (o o' : MutBor (List ℕ)) (q : Result ℕ Refusal) → Post sides o q o'
      → (s t : Term) → IsRun sides.left.now s → IsRun sides.right.now t → Fit s t → Gives (fitting (length o.now) (text s t)) o.now q o'.now)
      → Gives (◌>>=◌ (read_job job) (λ j. fitting (length out) (text j.left j.right))) out r out'
  unfolding ◌>>=◌
  text_given text answer =
      h.exact (λ j. fitting (length out) (text j.left j.right))
      (λ j sides o o' q known u v l post. rw (← l) (answer sides o o' q post j.left j.right u v known.sides))

  pub words_given :
      ((sides : Sides) (o o' : MutBor (List ℕ)) (q : Result ℕ Refusal) → Post sides o q o'
      → (s t : Term) → IsRun sides.left.now s → IsRun sides.right.now t → size s ≤ 31 → size t ≤ 31 → Gives (fitting (length o.now) (words_text (words s) (words t))) o.now q o'.now)
      → Gives (words_entry job (length out)) out r out'
  unfolding words_entry
  words_given answer =
      text_given (λ s t. words_text (words s) (words t)) (λ sides o o' q post s t u v fit. answer sides o o' q post s t u v fit.small_left fit.small_right)

  pub same_given :
      ((sides : Sides) (o o' : MutBor (List ℕ)) (q : Result ℕ Refusal) → Post sides o q o'
      → (s t : Term) → IsRun sides.left.now s → IsRun sides.right.now t → size s ≤ 31 → size t ≤ 31 → Gives (fitting (length o.now) (same_text (same_words s t))) o.now q o'.now)
      → Gives (same_entry job (length out)) out r out'
  unfolding same_entry
  same_given answer =
      text_given (λ s t. same_text (same_words s t)) (λ sides o o' q post s t u v fit. answer sides o o' q post s t u v fit.small_left fit.small_right)

  pub rename_given :
      ((sides : Sides) (o o' : MutBor (List ℕ)) (q : Result ℕ Refusal) → Post sides o q o'
      → (s t : Term) → IsRun sides.left.now s → IsRun sides.right.now t → size s ≤ 31 → size t ≤ 31 → length (rising (variables (letters s ++ letters t))) ≤ 6
      → Gives (fitting (length o.now) (term_lines (canonical_terms s t) ++ renamed_words (words s) (words t))) o.now q o'.now)
      → Gives (rename_entry job (length out)) out r out'
  unfolding rename_entry
  rename_given answer =
      text_given (λ s t. term_lines (canonical_terms s t) ++ renamed_words (words s) (words t))
      (λ sides o o' q post s t u v fit. answer sides o o' q post s t u v fit.small_left fit.small_right fit.few)

pub find_refused : (bs out work : List ℕ) {e : Refusal} → read_find bs ≡ refused (number_of e) → FindGives bs out work (Err e) out work
unfolding find ◌>>=◌
find_refused bs out work h = record { gives = rw h (refl, refl); workspace = λ i. refl }

-- an answer, or a refusal by 7 or 8, has none of the numbers of refusals that come before a search
module _ (ns : List ℕ) (apart : Each (λ n. (n < 100) × (7 ≤ n → n ≤ 8 → ⊥)) ns) where
  early : {r : ℕ} → r ∈ ns → (r < 100) × (7 ≤ r → r ≤ 8 → ⊥)
  early = each_in (λ n. (n < 100) × (7 ≤ n → n ≤ 8 → ⊥)) ns apart

  pub late : (a : Answer (List ℕ)) → Numbered (7 ∷ 8 ∷ []) a → returned a ∈ ns → ⊥
  late (refused n) h i =
      let k : (7 ≤ n) × (n ≤ 8) = each_in (λ m. (7 ≤ m) × (m ≤ 8)) (7 ∷ 8 ∷ []) (search arith) h in
      (early i).1 k.0 k.1
  late (accepted t) h i = omega (arith, (early i).0)

-- such are the answers to accepted jobs of FIND
find_late : (bs : List ℕ) {js : List Job} (slots room : ℕ) → read_find bs ≡ accepted js → returned (find bs slots room) ∈ before_search → ⊥
unfolding find ◌>>=◌
find_late bs {js} slots room e =
    rw e (late before_search (search arith depth 20) (◌>>=◌ (together slots js) (fitting room)) (searched_numbered (7 ∷ 8 ∷ []) (search among) (search among) slots room js))

-- they are answered from left's run and those of the right sides
module _ (bs : List ℕ) {rights xs : List ℕ} {j : Read} (h : Takes (read_find bs) j rights) (e : xs ≡ j.left) where
  pub find_answered : (r : Result ℕ Refusal) (out : List ℕ) {out' work work' : List ℕ}
      → ((bs : List ℕ) (s : Term) (ts : List Term) (m : line.Limits) → read_find bs ≡ accepted (jobs_of s ts m) → IsRun xs s → HeldRuns rights ts
      → length ts ≡ j.rights → limits_of j.limits ≡ m → Gives (find bs (slots_of (length work)) (length out)) out r out')
      → FindGives bs out work r out' work'
  find_answered r out {work = work} answer =
      let gives = answer bs h.side h.others h.limits h.accepted (rw e h.run) h.runs h.count h.is in
      let call = call_of (find bs (slots_of (length work)) (length out)) out r gives in
      record {
        gives = gives;
        workspace = λ i. absurd (find_late bs (slots_of (length work)) (length out) h.accepted (rw call.number at i));
      }
