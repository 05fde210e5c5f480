-- `is_above` looks at one word of the run after another. The loop's invariant: the rest of the run is no longer, and compares with the
-- sorted words from `i` on as the whole run does with all.
use Rattle.std.proofs.Common.{◌≡◌, ◌≤◌, length, drop}
use Rattle.terms.specs.Compare.{order_numbers}
use Rattle.words.specs.Spelled.{spelled}
use Rattle.words.specs.Renaming.{new_of}
use Rattle.words.specs.Rank.{sorted_renamed}
use Rattle.words.proofs.candidate.renaming.Renaming.is_above.Given as goal

abbrev pub invariant-loop-i : goal.invariant-loop-i
invariant-loop-i l =
    let ws = sorted_renamed (new_of l.self) l.words in
    (length l.rest ≤ length l.run) × (order_numbers l.rest (spelled (drop l.i ws)) ≡ order_numbers l.run (spelled ws))
