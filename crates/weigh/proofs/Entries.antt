-- The entry, by what became of the job.
use Rattle.std.specs.Prelude.{ℕ, ◌≡◌, List, [], ◌∷◌, length, Result, Err}
use Rattle.std.proofs.Common.{arith}
use Rattle.std.proofs.Math.Path.{refl}
use Rattle.terms.specs.Lists.{◌∈◌}
use Rattle.search.specs.Searched.{slots_of}
use Rattle.text.specs.Answer.{◌>>=◌, accepted, refused}
use Rattle.text.specs.Refusal.{number_of}
use Rattle.text.specs.Entry.{returned, Gives}
use Rattle.text.specs.declared.refusal.Refusal.{Refusal}
use Rattle.text.specs.Theory.Entry.{among}
use Rattle.text.proofs.Entries.{call_of, late}
use Rattle.weigh.specs.Job.{WeighJob, read_weigh}
use Rattle.weigh.specs.Text.{weigh_entry}
use Rattle.weigh.specs.Read.{Takes}
use Rattle.weigh.specs.Answered.{before_search, WeighGives}
use Rattle.weigh.specs.Theory.Entry.{job_answer, job_numbered}
use Rattle.weigh.specs.declared.job.Read.{Read}

pub weigh_refused : (bs out work : List ℕ) {e : Refusal} → read_weigh bs ≡ refused (number_of e) → WeighGives bs out work (Err e) out work
unfolding weigh_entry ◌>>=◌
weigh_refused bs out work h = record { gives = rw h (refl, refl); workspace = λ i. refl }

-- an accepted job is refused by 7 or 8 at most
weigh_late : (bs : List ℕ) {j : WeighJob} (slots room : ℕ) → read_weigh bs ≡ accepted j → returned (weigh_entry bs slots room) ∈ before_search → ⊥
unfolding weigh_entry ◌>>=◌
weigh_late bs {j} slots room e = rw e (late before_search (search arith depth 20) (job_answer slots room j) (job_numbered (7 ∷ 8 ∷ []) (search among) (search among) slots room j))

pub weigh_given : (bs out work : List ℕ) (r : Result ℕ Refusal) (out' work' : List ℕ) {read : Read} → Takes (read_weigh bs) read
    → Gives (weigh_entry bs (slots_of (length work)) (length out)) out r out' → WeighGives bs out work r out' work'
weigh_given bs out work r out' work' T gives =
    let call = call_of (weigh_entry bs (slots_of (length work)) (length out)) out r gives in
    record {
      gives = gives;
      workspace = λ i. absurd (weigh_late bs (slots_of (length work)) (length out) T.accepted (rw call.number at i));
    }
