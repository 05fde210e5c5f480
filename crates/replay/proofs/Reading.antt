-- A list's ends.
use Rattle.std.proofs.Common.{◌≡◌, ◌-◌, ℕ, ◌+◌, ◌≤◌, List, ◌++◌, length, drop, arith, ◌∙◌, ap, sym, append_assoc}
use Rattle.std.proofs.lemmas.List.{drop-drop, take-append-drop}
use Rattle.std.specs.List.{IsSplitAt}
use Rattle.replay.specs.Records.{IsEnd}

pub end_more : (list rest end : List ℕ) → length rest ≤ length list → length end ≤ length rest → IsEnd list rest → IsEnd rest end → IsEnd list end
end_more list rest end k l h i =
    let m = length rest - length end in
    let n : (length list - length rest) + m ≡ length list - length end = omega arith in
    i ∙ ap (λ (x : List ℕ). drop m x) h ∙ drop-drop m (length list - length rest) list ∙ ap (λ (j : ℕ). drop j list) n

-- two parts split off a list
pub parted : (list job rest answer behind : List ℕ) (m n : ℕ) → IsSplitAt list m job rest → IsSplitAt rest n answer behind
    → list ≡ (job ++ answer) ++ behind
parted list job rest answer behind m n s t =
    sym (take-append-drop m list) ∙ rw (← s.1, ← s.2, append_assoc, t.1, t.2, take-append-drop)
