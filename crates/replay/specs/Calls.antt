-- What a stored call is made on, what is due of it, and what a fault says of it.
use Rattle.std.specs.Prelude.{◌≡◌, ℕ, ◌+◌, ◌*◌, ◌%◌, ◌<◌, Bool, true, false, not, ◌&&◌, ◌⊎◌, List, ◌++◌, length, take, drop, ◌==◌, ◌≢◌, nat_le, nat_lt, Option, Some, None, Result, Ok, Err, if◌then◌else◌}
use Rattle.text.specs.Entry.{Call, FindCall}
use Rattle.text.specs.Words.{words_entry}
use Rattle.text.specs.Rename.{rename_entry}
use Rattle.text.specs.Same.{same_entry}
use Rattle.checking.specs.Check.{check as check-entry}
use Rattle.catalogue.specs.Texts.{put_text, withdraw_text}
use Rattle.catalogue.specs.Stored.{SentCall}
use Rattle.weigh.specs.Answered.{WeighCall}
use Rattle.replay.specs.Dirt.{bytes, due}
use Rattle.replay.specs.declared.record.Record.{Record}
use Rattle.replay.specs.declared.record.Entry.{Entry}
use Rattle.replay.specs.declared.record.Entry.TheVariants.{Find, Words, Rename, Check, Put, Withdraw, Same, Weigh, Other}
use Rattle.replay.specs.declared.call.Buffers.{Buffers}
use Rattle.replay.specs.declared.call.Fault.{Fault}
use Rattle.replay.specs.declared.call.Fault.TheVariants.{Number, Output, Workspace, Catalogue, Buffers as TooSmall}

-- the numbers lent to a call: 40 to a slot, and some more that make no slot
abbrev pub lent_numbers : (slots : ℕ) → ℕ
lent_numbers slots = if nat_lt 1000 slots then 41000 else (slots * 40 + slots % 40)

-- the number to return: the stored one, or 100 and the answer's length
abbrev pub due_number : (stored : Option ℕ) (answer : List ℕ) → ℕ
due_number (Some n) answer = n
due_number None answer = 100 + length answer

-- whether a call of FIND that returns this number has searched: it is no refusal, or it is 7 or 8
abbrev pub is_searched : (number : ℕ) → Bool
is_searched number = nat_lt 6 number && not (number == 9) && not (number == 10)

-- likewise of WEIGH
abbrev pub is_weighed : (number : ℕ) → Bool
is_weighed number = nat_lt 6 number && not (number == 16)

-- where the workspace may be changed up to: in the lent part, by a call of FIND or of WEIGH that has searched
abbrev pub changed_to : (entry : Entry) (number lent : ℕ) → ℕ
changed_to Find number lent = if is_searched number then lent else 0
changed_to Weigh number lent = if is_weighed number then lent else 0
changed_to _ number lent = 0

-- whether a call that returns this number may change the catalogue: one of PUT or WITHDRAW that is not refused
abbrev pub is_listing : (entry : Entry) (number : ℕ) → Bool
is_listing Put number = nat_le 100 number
is_listing Withdraw number = nat_le 100 number
is_listing _ number = false

-- the catalogue is as it was before the call, or may be another
abbrev pub Kept : (entry : Entry) (number : ℕ) (cat before : List ℕ) → Type 0
Kept entry number cat before = elim (is_listing entry number) [ true ↦ Unit {0} | false ↦ cat ≡ before ]

-- a call of an entry; where the number is no entry's, one of CHECK
abbrev pub Made : (entry : Entry) (job out work cat : List ℕ) (r : ℕ) (out' work' cat' : List ℕ) → Type 0
Made Find job out work cat r out' work' cat' = FindCall job out work r out' work' × (cat' ≡ cat)
Made Words job out work cat r out' work' cat' = Call (words_entry job (length out)) out r out' × (work' ≡ work) × (cat' ≡ cat)
Made Rename job out work cat r out' work' cat' = Call (rename_entry job (length out)) out r out' × (work' ≡ work) × (cat' ≡ cat)
Made Check job out work cat r out' work' cat' = Call (check-entry job (length out)) out r out' × (work' ≡ work) × (cat' ≡ cat)
Made Put job out work cat r out' work' cat' = SentCall (put_text job) cat r cat' × (out' ≡ out) × (work' ≡ work)
Made Withdraw job out work cat r out' work' cat' = SentCall (withdraw_text job) cat r cat' × (out' ≡ out) × (work' ≡ work)
Made Same job out work cat r out' work' cat' = Call (same_entry job (length out)) out r out' × (work' ≡ work) × (cat' ≡ cat)
Made Weigh job out work cat r out' work' cat' = WeighCall job out work r out' work' × (cat' ≡ cat)
Made (Other n) job out work cat r out' work' cat' = Call (check-entry job (length out)) out r out' × (work' ≡ work) × (cat' ≡ cat)

-- the first that is not as due of a call: its number (r where d is due), its output, its workspace, the catalogue
abbrev pub Verdict : (r d : ℕ) (output workspace catalogue : Type 0) → Result (Unit {0}) Fault → Type 0
Verdict r d output workspace catalogue (Ok u) = (r ≡ d) × output × workspace × catalogue
Verdict r d output workspace catalogue (Err TooSmall) = ⊥
Verdict r d output workspace catalogue (Err (Number m n)) = (m ≡ r) × (n ≡ d) × (r ≢ d)
Verdict r d output workspace catalogue (Err Output) = (r ≡ d) × (output → ⊥)
Verdict r d output workspace catalogue (Err Workspace) = (r ≡ d) × output × (workspace → ⊥)
Verdict r d output workspace catalogue (Err Catalogue) = (r ≡ d) × output × workspace × (catalogue → ⊥)

-- a call that returned a number, held to what is due of it; that many numbers were lent
abbrev pub Judged : {o w k : ℕ} (c : Record) (first number lent : ℕ) (b : Buffers o w k) → Result (Unit {0}) Fault → Type 0
Judged c first number lent b held =
    let from = changed_to c.entry number lent in
    Verdict number (due_number c.number c.answer.now)
    (b.output ≡ due c.answer.now first (length b.output))
    (drop from b.workspace ≡ drop from b.former)
    (Kept c.entry number b.catalogue b.before) held

-- a stored call made on lent parts of output and workspace and on the catalogue, and held to the stored answer
pub record Replayed {o w k : ℕ} (c : Record) (first : ℕ) (old new : Buffers o w k) (held : Result (Unit {0}) Fault) : Type 0 where
  pub number : ℕ
  pub bytes_after : List ℕ
  pub numbers_after : List ℕ
  pub made : Made c.entry c.job.now (take c.room (bytes first (length old.output))) (take (lent_numbers c.slots) old.workspace) old.catalogue number bytes_after numbers_after new.catalogue
  pub output : new.output ≡ bytes_after ++ drop c.room (bytes first (length old.output))
  pub workspace : new.workspace ≡ numbers_after ++ drop (lent_numbers c.slots) old.workspace
  pub former_is : new.former ≡ old.workspace
  pub before_is : new.before ≡ old.catalogue
  pub judged : Judged c first number (lent_numbers c.slots) new held

-- of a replayed call: the buffers are too small, or the call is made
abbrev pub Faults : {o w k : ℕ} (c : Record) (first : ℕ) (old new : Buffers o w k) → Result (Unit {0}) Fault → Type 0
Faults c first old new held =
    (((length old.output < c.room) ⊎ (length old.workspace < lent_numbers c.slots)) × (held ≡ Err TooSmall))
    ⊎ Replayed c first old new held
