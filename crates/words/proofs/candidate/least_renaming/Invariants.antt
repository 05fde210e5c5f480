-- `least_renaming` tries every renaming. The loop's invariant: those with numbers below `c` are tried, and what is renamed and what is lent stay.
use Rattle.std.proofs.Common.{◌≡◌, ℕ}
use Rattle.words.specs.Decoded.{renaming}
use Rattle.words.specs.Making.{made, lent}
use Rattle.words.proofs.Visited.{Visited}
use Rattle.words.proofs.candidate.least_renaming.Given as goal

abbrev pub invariant-loop-c : goal.invariant-loop-c
invariant-loop-c g l =
    let S = g.S.Renamed in
    Visited (S.is_room l.initial.sides (made l.initial.best).room) (λ c. S.equation l.initial.sides (renaming l.names c)) (made l.best).sides l.c
    × (S.equation l.sides ≡ S.equation l.initial.sides)
    × (lent l.best ≡ lent l.initial.best)
    × ((n : ℕ) → S.is_room l.initial.sides n → S.is_room l.sides n)
