-- The claims hold of every call of WEIGH.
use Rattle.std.specs.Prelude.{ℕ, ◌≤◌, ◌<◌, ◌≡◌, refl, ◌↔◌, not, ◌&&◌, leb, List, [], ◌∷◌, ◌++◌, length}
use Rattle.std.proofs.Common.{arith, ap, ⊎_elim, le-leb}
use Rattle.std.proofs.lemmas.Bool.{lt-leb}
use Rattle.terms.specs.Lists.{◌∈◌}
use Rattle.terms.specs.Term.{size, same}
use Rattle.terms.specs.Letters.{letters}
use Rattle.terms.specs.Theory.Order.{below?}
use Rattle.search.specs.Law.{semiring}
use Rattle.search.specs.Searched.{slots_of}
use Rattle.text.specs.TermText.{read_term}
use Rattle.text.specs.Answer.{Answer, refused, accepted, ◌>>=◌, require, fitting}
use Rattle.text.specs.Job.{in_range, few}
use Rattle.text.specs.Entry.{returned}
use Rattle.text.specs.Theory.Entry.{among, Numbered, numbered_or, numbered_require, numbered_first, fitting_numbered, each_in, call_claims}
use Rattle.weigh.specs.Outcome.{noted}
use Rattle.weigh.specs.Layout.{weigh_layout}
use Rattle.weigh.specs.Job.{WeighJob, weights_in_range, weigh_accept, read_weigh}
use Rattle.weigh.specs.Text.{weigh_text, job_weighed, weigh_entry}
use Rattle.weigh.specs.Answered.{before_search, weigh_numbers, WeighCall, WeighCallClaims}
use Rattle.weigh.specs.Theory.Answers.{weigh_answered}

pub read_weigh_numbered : (bs : List ℕ) → Numbered before_search (read_weigh bs)
unfolding read_weigh weigh_accept
read_weigh_numbered bs =
    numbered_require ns 1 (leb (length bs) 1024) _ (search among)
    (numbered_or ns 1 (weigh_layout (length semiring) bs) _ (search among) λ j.
    numbered_or ns 2 (read_term j.left) _ (search among) λ s.
    numbered_or ns 2 (read_term j.right) _ (search among) λ t.
    numbered_require ns 3 (leb (size s) 31 && leb (size t) 31) _ (search among)
    (numbered_require ns 4 (few (letters s ++ letters t)) _ (search among)
    (numbered_require ns 5 (in_range j.limits) _ (search among depth 9)
    (numbered_require ns 16 (leb j.cost 99 && weights_in_range j.weights) _ (search among depth 9)
    (numbered_require ns 6 (not (same s t)) _ (search among depth 9) tt)))))
  where
    ns : List ℕ
    ns = before_search

-- the answer to an accepted job
abbrev pub job_answer : ℕ → ℕ → WeighJob → Answer (List ℕ)
job_answer slots room j = ◌>>=◌ (require 7 (leb (noted (job_weighed j)) slots)) (λ _. fitting room (weigh_text semiring j (job_weighed j)))

pub job_numbered : (ns : List ℕ) → 7 ∈ ns → 8 ∈ ns → (slots room : ℕ) (j : WeighJob) → Numbered ns (job_answer slots room j)
job_numbered ns seven eight slots room j =
    numbered_require ns 7 (leb (noted (job_weighed j)) slots) _ seven (fitting_numbered ns room (weigh_text semiring j (job_weighed j)) eight)

weigh_numbered : (bs : List ℕ) (slots room : ℕ) → Numbered weigh_numbers (weigh_entry bs slots room)
unfolding weigh_entry
weigh_numbered bs slots room =
    numbered_first before_search (7 ∷ 8 ∷ []) (read_weigh bs) _ (read_weigh_numbered bs)
    (job_numbered weigh_numbers (search among depth 11) (search among depth 11) slots room)

-- what may become of a job, with what the entry gives
data Became (job : List ℕ) (slots room : ℕ) : Answer (List ℕ) → Type 0 where
  unread : (n : ℕ) → n ∈ before_search → read_weigh job ≡ refused n → Became job slots room (refused n)
  full : (j : WeighJob) → read_weigh job ≡ accepted j → slots < noted (job_weighed j) → Became job slots room (refused 7)
  short : (j : WeighJob) → read_weigh job ≡ accepted j → noted (job_weighed j) ≤ slots → room < length (weigh_text semiring j (job_weighed j))
      → Became job slots room (refused 8)
  answers : (t : List ℕ) (j : WeighJob) → read_weigh job ≡ accepted j → noted (job_weighed j) ≤ slots → length (weigh_text semiring j (job_weighed j)) ≤ room
      → Became job slots room (accepted t)

module _ (job : List ℕ) (slots : ℕ) where
  -- the answer to an accepted job, in any room
  module _ (j : WeighJob) (read : read_weigh job ≡ accepted j) where
    abbrev text : List ℕ
    text = weigh_text semiring j (job_weighed j)

    is_full : (room : ℕ) → slots < noted (job_weighed j) → weigh_entry job slots room ≡ refused 7
    unfolding weigh_entry ◌>>=◌ require
    is_full room h = rw (read, lt-leb (noted (job_weighed j)) slots h) refl

    is_short : (room : ℕ) → noted (job_weighed j) ≤ slots → room < length text → weigh_entry job slots room ≡ refused 8
    unfolding weigh_entry ◌>>=◌ require fitting
    is_short room h k = rw (read, le-leb (noted (job_weighed j)) slots h, lt-leb (length text) room k) refl

    is_text : (room : ℕ) → noted (job_weighed j) ≤ slots → length text ≤ room → weigh_entry job slots room ≡ accepted text
    unfolding weigh_entry ◌>>=◌ require fitting
    is_text room h k = rw (read, le-leb (noted (job_weighed j)) slots h, le-leb (length text) room k) refl

  is_unread : (room n : ℕ) → read_weigh job ≡ refused n → weigh_entry job slots room ≡ refused n
  unfolding weigh_entry ◌>>=◌
  is_unread room n read = rw read refl

  module _ (room : ℕ) where
    became : Became job slots room (weigh_entry job slots room)
    became = go (read_weigh job) refl (read_weigh_numbered job)
      where
        go : (a : Answer WeighJob) → read_weigh job ≡ a → Numbered before_search a → Became job slots room (weigh_entry job slots room)
        go (refused n) read h = rw (is_unread room n read) (unread n h read)
        go (accepted j) read h =
            ⊎_elim
            (λ many. rw (is_full j read room many) (full j read many))
            (λ few.
            ⊎_elim
            (λ long. rw (is_short j read room few long) (short j read few long))
            (λ fits. rw (is_text j read room few fits) (answers (text j read) j read few fits))
            (below? room (length (text j read))))
            (below? slots (noted (job_weighed j)))

    -- refusals before the search are by neither 7 nor 8
    early : {n : ℕ} → n ∈ before_search → (n ≡ 7 → ⊥) × (n ≡ 8 → ⊥)
    early = each_in (λ n. (n ≡ 7 → ⊥) × (n ≡ 8 → ⊥)) before_search (search arith depth 20)

    abbrev Full : Type 0
    Full = (j : WeighJob) × (read_weigh job ≡ accepted j) × (slots < noted (job_weighed j))

    full_exactly : {a : Answer (List ℕ)} → Became job slots room a → (returned a ≡ 7) ↔ Full
    full_exactly (unread n i read) = (λ e. absurd ((early i).0 e), λ (j, other, many). let z : ◌≡◌ {A = ℕ} 0 1 = cc in absurd (omega arith))
    full_exactly (full j read many) = (λ e. (j, read, many), λ h. refl)
    full_exactly (short j read enough long) = (λ e. absurd (omega arith), λ (k, other, many). let e : j ≡ k = cc in absurd (omega (arith, ap (λ i. noted (job_weighed i)) e)))
    full_exactly (answers t j read enough fits) = (λ e. absurd (omega arith), λ (k, other, many). let e : j ≡ k = cc in absurd (omega (arith, ap (λ i. noted (job_weighed i)) e)))

    abbrev Narrow : Type 0
    Narrow = (j : WeighJob) × (read_weigh job ≡ accepted j) × (noted (job_weighed j) ≤ slots) × (room < length (weigh_text semiring j (job_weighed j)))

    short_exactly : {a : Answer (List ℕ)} → Became job slots room a → (returned a ≡ 8) ↔ Narrow
    short_exactly (unread n i read) = (λ e. absurd ((early i).1 e), λ (j, other, enough, long). let z : ◌≡◌ {A = ℕ} 0 1 = cc in absurd (omega arith))
    short_exactly (full j read many) = (λ e. absurd (omega arith), λ (k, other, enough, long). let e : j ≡ k = cc in absurd (omega (arith, ap (λ i. noted (job_weighed i)) e)))
    short_exactly (short j read enough long) = (λ e. (j, read, enough, long), λ h. refl)
    short_exactly (answers t j read enough fits) = (λ e. absurd (omega arith), λ (k, other, few, long). let e : j ≡ k = cc in absurd (omega (arith, ap (λ i. length (weigh_text semiring i (job_weighed i))) e)))

    abbrev Short : Type 0
    Short = (t : List ℕ) × (room < length t) × ((wide : ℕ) → length t ≤ wide → weigh_entry job slots wide ≡ accepted t)

    short_then : {a : Answer (List ℕ)} → Became job slots room a → returned a ≡ 8 → Short
    short_then (unread n i read) e = absurd ((early i).1 e)
    short_then (full j read many) e = absurd (omega arith)
    short_then (short j read enough long) e = (text j read, long, λ wide fits. is_text j read wide enough fits)
    short_then (answers t j read enough fits) e = absurd (omega arith)

-- of every call
pub weigh_call_claims : {job out work : List ℕ} {r : ℕ} {out' work' : List ℕ} → WeighCall job out work r out' work' → WeighCallClaims job out work r out' work'
weigh_call_claims {job} {out} {work} {r} c =
    let slots = slots_of (length work) in
    let call = call_claims (search arith depth 12) (weigh_numbered job slots (length out)) c.call in
    record {
      call = call;
      workspace = c.workspace;
      answered = λ h. weigh_answered job slots (length out) _ (call.text h);
      full = rw c.call.number (full_exactly job slots (length out) (became job slots (length out)));
      short = rw c.call.number (short_exactly job slots (length out) (became job slots (length out)));
      wide = rw c.call.number (short_then job slots (length out) (became job slots (length out)));
    }
