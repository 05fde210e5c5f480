-- Demand 3 holds of every block of every answer of FIND.
use Prim.Native.Nat.{ℕ, ◌≤◌}
use Rattle.std.proofs.Common.{arith, ◌∙◌}
use Rattle.std.proofs.Math.Path.{◌≡◌, refl, sym}
use Rattle.std.proofs.Math.Bool.{Bool}
use Rattle.std.specs.Prelude.{true, false, length, leb}
use mathlib.Core.List.{List, [], ◌∷◌, flat_map, append-nil}
use Rattle.std.proofs.Math.Dec.{leb→le}
use Rattle.terms.specs.Lists.{◌∈◌, here}
use Rattle.terms.specs.Theory.Reflects.{Reflects, leb_reflects}
use Rattle.search.specs.Law.{semiring}
use Rattle.search.specs.Search.{noted}
use Rattle.text.specs.Answer.{Answer, refused, accepted, ◌>>=◌, require, fitting, printed}
use Rattle.text.specs.Job.{Job, Accepted}
use Rattle.text.specs.FindJob.{alone_texts, read_find}
use Rattle.text.specs.Find.{outcome_text, searched, alone, block, together, find}
use Rattle.text.specs.Claims.{Answered, Block, answers, refuses, EachAlone, FindAnswered}
use Rattle.text.specs.Theory.Accepted.{If_accepted, accepted_then, required_then}
use Rattle.text.specs.Theory.Answers.{job_answered}
use Rattle.text.specs.Theory.FindJobs.{jobs_accepted}
use Rattle.text.specs.Theory.Parts.{blocks_parts}
use Rattle.text.specs.Theory.AloneText.{ReadAlone, jobs_alone, blocks_alone}

module _ (slots : ℕ) where
  -- a block, by whether there are slots enough
  pub job_block : (j : Job) → Accepted j → Block slots j (block slots j)
  unfolding block alone ◌>>=◌ require printed
  job_block j known = go (leb (noted (searched j)) slots) (leb_reflects (noted (searched j)) slots)
    where
      text : Bool → List ℕ
      text b = printed (◌>>=◌ (require 7 b) (λ _. accepted (outcome_text semiring j (searched j))))

      go : (b : Bool) → Reflects (noted (searched j) ≤ slots) b → Block slots j (text b)
      go true h = answers (job_answered j slots known h)
      go false h = refuses (omega arith) refl

  alone_answered : (j : Job) → Accepted j → If_accepted (λ t. Answered j slots t × (t ≡ block slots j)) (alone slots j)
  unfolding block alone ◌>>=◌ require printed
  alone_answered j known = go (leb (noted (searched j)) slots) (leb_reflects (noted (searched j)) slots)
    where
      answer : Bool → Answer (List ℕ)
      answer b = ◌>>=◌ (require 7 b) (λ _. accepted (outcome_text semiring j (searched j)))

      go : (b : Bool) → Reflects (noted (searched j) ≤ slots) b → If_accepted (λ t. Answered j slots t × (t ≡ printed (answer b))) (answer b)
      go true h = (job_answered j slots known h, refl)
      go false h = tt

module _ (bs : List ℕ) (slots room : ℕ) where
  abbrev Due : List ℕ → Type 0
  Due = FindAnswered bs slots room

  -- what is known of the jobs that were read
  record Jobs (js : List Job) : Type 0 where
    read : read_find bs ≡ accepted js
    known : (j : Job) → j ∈ js → Accepted j
    alone : ReadAlone bs js

  each_alone : (js : List Job) → ReadAlone bs js → length (flat_map (block slots) js) ≤ room → EachAlone bs js slots room
  each_alone js a h =
      record {
        written = a.written;
        laid = a.laid;
        limits = a.lines.limits;
        lines = a.lines.parts;
        read = a.read;
        blocks = blocks_alone slots room (alone_texts a.written a.lines.limits) js a.read h;
      }

  fitted : (js : List Job) → Jobs js → (t : List ℕ) → t ≡ flat_map (block slots) js → ((j : Job) → js ≡ j ∷ [] → Answered j slots t) → If_accepted Due (fitting room t)
  unfolding fitting
  fitted js given t blocks single =
      required_then Due 8 (leb (length t) room) _ λ fits.
      let short = leb→le (length t) room fits in
      let each : (j : Job) → j ∈ js → Block slots j (block slots j) = λ j m. job_block slots j (given.known j m) in
      record {
        jobs = js;
        accepted = given.read;
        blocks = blocks;
        parts = rw blocks (blocks_parts slots js each);
        each = each;
        alone = each_alone js given.alone (rw blocks at short);
        single = single;
        fits = short;
      }

  answers_all : (js : List Job) → Jobs js → If_accepted Due (◌>>=◌ (together slots js) (fitting room))
  unfolding together ◌>>=◌ flat_map
  answers_all [] given = fitted [] given [] refl (λ j e. absurd (let z : ◌≡◌ {A = ℕ} 0 1 = cc in omega arith))
  answers_all (j ∷ []) given = go (alone slots j) (alone_answered slots j (given.known j (here refl)))
    where
      go : (a : Answer (List ℕ)) → If_accepted (λ t. Answered j slots t × (t ≡ block slots j)) a → If_accepted Due (◌>>=◌ a (fitting room))
      go (refused n) h = tt
      go (accepted t) (h, e) =
          fitted (j ∷ []) given t (e ∙ sym (append-nil (block slots j))) (λ k p. let q : j ≡ k = cc in rw q at h)
  answers_all (j ∷ k ∷ ks) given =
      fitted (j ∷ k ∷ ks) given (flat_map (block slots) (j ∷ k ∷ ks)) refl (λ i e. absurd (let z : ◌≡◌ {A = ℕ} 0 1 = cc in omega arith))

  find_accepted : If_accepted Due (find bs slots room)
  unfolding find
  find_accepted =
      accepted_then Due (read_find bs) _ λ js read.
      answers_all js (record { read = read; known = rw read at (jobs_accepted bs); alone = rw read at (jobs_alone bs) })

  -- demand 3 of every answer of FIND
  pub answered : (t : List ℕ) → find bs slots room ≡ accepted t → FindAnswered bs slots room t
  answered t e = rw e at find_accepted
