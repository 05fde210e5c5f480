-- What is counted of the calls.
use Rattle.std.specs.Prelude.{ℕ, ◌+◌, ◌&&◌, [], nat_le, nat_lt, slice_index, slice_set, slice_index_or, Option, Some, None, Result, Ok, Err, if◌then◌else◌}
use Rattle.replay.specs.Records.{number_of}
use Rattle.replay.specs.declared.record.Record.{Record}
use Rattle.replay.specs.declared.record.Entry.{Entry}
use Rattle.replay.specs.declared.call.Fault.{Fault}
use Rattle.replay.specs.declared.tally.Tally.{Tally}

-- what is counted in a row and a column
abbrev pub count_at : (row column : ℕ) → Tally → ℕ
count_at row column t = slice_index (slice_index_or t.counts row []) column

-- one more at a place, up to a million
abbrev pub one_more : (place : ℕ × ℕ) → Tally → Tally
one_more place t =
    let n = count_at place.0 place.1 t in
    let row = slice_set (slice_index_or t.counts place.0 []) place.1 (n + 1) in
    if nat_lt n 1000000 then record { counts = slice_set t.counts place.0 row } else t

-- the number of a refusal; 0 for an answer, of which none is stored or, of PUT and WITHDRAW, 100 and more
abbrev pub refusal : (number : Option ℕ) → ℕ
refusal (Some n) = if nat_lt 99 n then 0 else n
refusal None = 0

-- where a call is counted by its entry and its stored number; with all calls where one of them is too large
abbrev pub place : (entry : Entry) (number : Option ℕ) → ℕ × ℕ
place entry number =
    if nat_le (number_of entry) 8 && nat_le (refusal number) 16 then (number_of entry, refusal number) else (0, 0)

-- the counts with one call more: in row 0 all calls in column 0, those that differ in column 1
abbrev pub counted : Record → (held : Result (Unit {0}) Fault) → Tally → Tally
counted c (Ok u) t = one_more (place c.entry c.number) (one_more (0, 0) t)
counted c (Err f) t = one_more (0, 1) (one_more (place c.entry c.number) (one_more (0, 0) t))
