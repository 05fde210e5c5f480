-- The entry, where the verdict is good: `answer=good` where there is room.
use Rattle.std.proofs.Common.{◌≡◌, ℕ, List, length, refl, ap, sym, ◌∙◌, Result, Ok, Err}
use Rattle.std.specs.Prelude.{IfOk}
use Rattle.text.specs.Answer.{fitting, field}
use Rattle.text.specs.Bytes.{ascii}
use Rattle.text.specs.Entry.{Call, Gives}
use Rattle.text.specs.Refusal.{number_returned}
use Rattle.text.specs.declared.refusal.Refusal.{Refusal}
use Rattle.text.specs.Theory.Accepted.{fitting_only}
use Rattle.text.proofs.Entries.{call_of}
use Rattle.checking.specs.Check.{good, check}
use Rattle.checking.specs.Judged.{Judges}

good_length : length good ≡ 12
unfolding good field ascii
good_length = refl

-- the answer has twelve bytes
pub twelve : (out : List ℕ) (r : Result ℕ Refusal) (out' : List ℕ) → Gives (fitting (length out) good) out r out' → IfOk r (λ n. n ≡ 12)
twelve out (Ok n) out' (t, fits, long, written) = long ∙ ap length (sym (fitting_only (length out) good fits)) ∙ good_length
twelve out (Err e) out' h = tt

-- what is given for a good derivation is what a call gives
pub check_given : (text out : List ℕ) {u : Unit {0}} → Judges text (Ok u) → (r : Result ℕ Refusal) {out' : List ℕ}
    → Gives (fitting (length out) good) out r out' → Call (check text (length out)) out (number_returned r) out'
check_given text out h r g = rw (h (length out)) (call_of _ out r g)
