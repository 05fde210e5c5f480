-- The room that a reader lends: it stays, also once the run that was read into it is gone.
use Rattle.std.specs.Prelude.{◌≡◌, [], length, ⊤}
use Rattle.std.specs.Borrow.{follows_so, MutBor, Fml}
use mathlib.Core.Option.{none}
use mir.Syntax.{named}
use Rattle.checking.specs.declared.reader.Reader.{Reader}
use Rattle.checking.specs.contracts.reader.Reader.{the_row}

-- the same buffer is lent, as long as before
abbrev pub SameRoom : (before after : Reader) → Type 0
SameRoom before after = (length after.numbers.now ≡ length before.numbers.now) × (after.numbers.ghost_name ≡ before.numbers.ghost_name)

-- of `read`. `named 0` is the place of the room's lifetime in its signature.
abbrev pub LendsTheSame : MutBor Reader → Fml
LendsTheSame r =
    let row = the_row (record { mir = named 0; lft = [] }) in
    follows_so row row r.ghost_name none (λ _ _. ⊤) (SameRoom r.now)
