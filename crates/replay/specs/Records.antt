-- Where a stored call stands in the list.
use Rattle.std.specs.Prelude.{◌≡◌, ℕ, ◌-◌, ◌<◌, List, ◌++◌, length, drop, Option, Some, None, ◌==◌, if◌then◌else◌}
use Rattle.std.specs.Borrow.{Bor}
use Rattle.replay.specs.declared.record.Record.{Record}
use Rattle.replay.specs.declared.record.Entry.{Entry}
use Rattle.replay.specs.declared.record.Entry.TheVariants.{Find, Words, Rename, Check, Put, Withdraw, Same, Weigh, Other}

-- the entry that a number stands for in the list
abbrev pub entry_of : ℕ → Entry
entry_of n =
    if n == 1 then Find
    else if n == 2 then Words
    else if n == 3 then Rename
    else if n == 4 then Check
    else if n == 5 then Put
    else if n == 6 then Withdraw
    else if n == 7 then Same
    else if n == 8 then Weigh
    else Other n

-- the number that stands for an entry
abbrev pub number_of : Entry → ℕ
number_of Find = 1
number_of Words = 2
number_of Rename = 3
number_of Check = 4
number_of Put = 5
number_of Withdraw = 6
number_of Same = 7
number_of Weigh = 8
number_of (Other n) = n

-- what a call is to return, by the number stored for it: where that is 0 it is to answer
abbrev pub due_in : (stored : ℕ) → Option ℕ
due_in stored = if stored == 0 then None else Some stored

-- the end of a list
abbrev pub IsEnd : (list end : List ℕ) → Type 0
IsEnd list end = end ≡ drop (length list - length end) list

-- a whole record is in the list, its answer behind its job, and the next one starts behind its start
abbrev pub Reads : List ℕ → Option (Record × Bor (List ℕ)) → Type 0
Reads list None = Unit {0}
Reads list (Some r) = IsEnd list (r.0.job.now ++ r.0.answer.now ++ r.1.now) × (length r.1.now < length list)
