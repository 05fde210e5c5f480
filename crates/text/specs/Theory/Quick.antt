-- SAME says whether the sides have the same words, in the line that WORDS prints for that job.
use Rattle.std.specs.Prelude.{ℕ, ◌+◌, ◌-◌, ◌<◌, ◌≤◌, ◌≡◌, refl, Bool, true, false, List, ◌++◌, length, drop, take}
use Rattle.std.proofs.Common.{arith, sym, ◌∙◌, ap, append_assoc, length-append, ⊎_elim}
use Rattle.std.proofs.Math.Seq.{take-append_seam}
use Rattle.terms.specs.Lists.{◌∈◌}
use Rattle.terms.specs.Term.{Term}
use Rattle.terms.specs.Theory.Reflects.{Reflects}
use Rattle.terms.specs.Theory.Order.{below?, tie_reflects}
use Rattle.words.specs.Words.{words}
use Rattle.words.specs.Same.{same_words}
use Rattle.words.specs.Theory.Order.{list_order}
use Rattle.words.specs.Theory.Same.{same_words_lists}
use Rattle.search.specs.Line.{Limits}
use Rattle.text.specs.Bytes.{ascii}
use Rattle.text.specs.Answer.{Answer, refused, accepted, ◌>>=◌, fitting, field, yes_no}
use Rattle.text.specs.Job.{Job, read_job}
use Rattle.text.specs.JobText.{Passes}
use Rattle.text.specs.Words.{same_text, words_text, words_entry}
use Rattle.text.specs.Same.{same_entry}
use Rattle.text.specs.Parted.{Lines}
use Rattle.text.specs.Quick.{Says, SaysSame, FirstLine, AsWords, LineOfWords}
use Rattle.text.specs.Entry.{returned, output_after, Call}
use Rattle.text.specs.Claims.{job_numbers}
use Rattle.text.specs.Theory.Accepted.{If_accepted, fitting_room, fitting_short}
use Rattle.text.specs.Theory.Stated.{stated}
use Rattle.text.specs.Theory.Entry.{read_numbered, each_in, same_claims}
use Rattle.text.specs.Theory.Parted.{told}

-- whether the words are the same, of the two terms
same_reflects : (s t : Term) → Reflects (words s ≡ words t) (same_words s t)
same_reflects s t = rw (same_words_lists s t) (tie_reflects list_order (words s) (words t))

-- a yes and a no are different lines
lines_apart : field "same=" (ascii "yes") ≡ field "same=" (ascii "no") → ⊥
unfolding field ascii
lines_apart e = let z : ◌≡◌ {A = ℕ} (length (field "same=" (ascii "yes"))) (length (field "same=" (ascii "no"))) = ap length e in omega arith

says : (s t : Term) (b : Bool) → Reflects (words s ≡ words t) b → Says s t (same_text b)
unfolding same_text yes_no
says s t true e = record { yes = (λ _. e, λ _. refl); no = (λ l. absurd (lines_apart l), λ n. absurd (n e)) }
says s t false n = record { yes = (λ l. absurd (lines_apart (sym l)), λ e. absurd (n e)); no = (λ _. n, λ _. refl) }

says_swap : {s t : Term} {a : List ℕ} → Says s t a → Says t s a
says_swap h =
    record {
      yes = (λ l. sym (h.yes.0 l), λ e. h.yes.1 (sym e));
      no = (λ l e. h.no.0 l (sym e), λ n. h.no.1 (λ e. n (sym e)));
    }

same_says : (job : List ℕ) (room : ℕ)
    → If_accepted (λ a. (s : Term) × (t : Term) × (m : Limits) × Passes job s t m × Says s t a) (same_entry job room)
unfolding same_entry
same_says = stated Says (λ s t. same_text (same_words s t)) (λ s t a h. says_swap h) (λ s t. says s t (same_words s t) (same_reflects s t))

pub says_same : SaysSame
says_same job out r out' c h = rw ((same_claims job out c).text h) at (same_says job (length out))

-- the line of WORDS' text

line_of : {said l r last b : List ℕ} → Lines said l r last b → FirstLine (field "same=" said) b
line_of {said} {l} {r} {last} h =
    record {
      said = said;
      rest = (field "left=" l ++ field "right=" r) ++ last;
      line = refl;
      first = h.whole ∙ append_assoc (field "same=" said) (field "left=" l ++ field "right=" r) last;
      only = h.same;
    }

first_line : (s t : Term) (b : Bool) → Reflects (words s ≡ words t) b → FirstLine (same_text b) (words_text (words s) (words t))
unfolding same_text yes_no
first_line s t true e = line_of ((told (words s) (words t)).yes.1 e).lines
first_line s t false n = line_of ((told (words s) (words t)).no.1 n).1.lines

-- a text for which there is room, or 8

record Fitted (t out : List ℕ) (r : ℕ) (out' : List ℕ) : Type 0 where
  short : length out < length t → r ≡ 8
  fits : length t ≤ length out → (r ≡ 100 + length t) × (take (r - 100) out' ≡ t)

fitted : (t out : List ℕ) {r : ℕ} {out' : List ℕ} → Call (fitting (length out) t) out r out' → Fitted t out r out'
fitted t out {r} {out'} c =
    record {
      short = λ h. c.number ∙ ap returned (fitting_short (length out) t h);
      fits = λ h.
          let n : r ≡ 100 + length t = c.number ∙ ap returned (fitting_room (length out) t h) in
          let o : out' ≡ t ++ drop (length t) out = c.output ∙ ap (output_after out) (fitting_room (length out) t h) in
          let k : r - 100 ≡ length t = omega arith in
          (n, rw (k, o) (take-append_seam t (drop (length t) out)));
    }

-- it is answered by that text, or its number is past those of the job
answered : {t out : List ℕ} {r : ℕ} {out' : List ℕ} → Fitted t out r out' → (100 ≤ r → take (r - 100) out' ≡ t) × (7 ≤ r)
answered {t} {out} f =
    ⊎_elim (λ h. (λ k. absurd (omega (arith, f.short h)), omega (arith, f.short h))) (λ h. (λ k. (f.fits h).1, omega (arith, (f.fits h).0)))
    (below? (length out) (length t))

small : {n : ℕ} → n ∈ job_numbers → n ≤ 6
small = each_in (λ n. n ≤ 6) job_numbers (search arith depth 12)

-- two calls, on a job that is refused, and on one that is read
module _ (job out : List ℕ) (r : ℕ) (out' other : List ℕ) (q : ℕ) (other' : List ℕ)
    (c : Call (same_entry job (length out)) out r out') (d : Call (words_entry job (length other)) other q other') where
  refused_both : (n : ℕ) → read_job job ≡ refused n → AsWords out r out' other q other'
  unfolding same_entry words_entry ◌>>=◌
  refused_both n e =
      let low : n ≤ 6 = small (rw e at (read_numbered job)) in
      let x : r ≡ n = rw e at c.number in
      let y : q ≡ n = rw e at d.number in
      record {
        refused = λ m i. (λ f. omega (arith, f), λ f. omega (arith, f));
        room = λ h k. absurd (omega arith);
        line = λ h k. absurd (omega arith);
      }

  answered_both : (j : Job) → read_job job ≡ accepted j → AsWords out r out' other q other'
  unfolding same_entry words_entry ◌>>=◌
  answered_both j e =
      let f = fitted (same_text (same_words j.left j.right)) out (rw e at c) in
      let g = fitted (words_text (words j.left) (words j.right)) other (rw e at d) in
      let l = first_line j.left j.right (same_words j.left j.right) (same_reflects j.left j.right) in
      let more = ap length l.first ∙ length-append (same_text (same_words j.left j.right)) l.rest in
      let high = (answered f).1 in
      let high' = (answered g).1 in
      record {
        refused = λ m i. (λ x. absurd (omega (arith, small i)), λ x. absurd (omega (arith, small i)));
        room = λ h k.
            ⊎_elim (λ x. absurd (omega (arith, g.short (omega arith)))) (λ x. omega (arith, (f.fits x).0))
            (below? (length out) (length (same_text (same_words j.left j.right))));
        line = λ h k. rw ((answered f).0 h, (answered g).0 k) l;
      }

  both : (a : Answer Job) → read_job job ≡ a → AsWords out r out' other q other'
  both (refused n) = refused_both n
  both (accepted j) = answered_both j

pub line_of_words : LineOfWords
line_of_words job out r out' other q other' c d = both job out r out' other q other' c d (read_job job) refl
