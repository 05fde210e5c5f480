-- Step lines read one after the other into room that is lent: it stays, and what is left of their text still fits.
use Rattle.std.proofs.Common.{ℕ, ◌≤◌, List, length, refl, ◌∙◌, arith}
use Rattle.checking.specs.declared.line.Step.{Step}
use Rattle.checking.specs.declared.reader.Reader.{Reader}
use Rattle.checking.specs.LineRead.{LineAt}
use Rattle.checking.specs.Room.{SameRoom}

-- what the loops keep: the room that was lent, and no more of the text than there was
pub record Fits (lent now : Reader) (text rest : List ℕ) : Type 0 where
  pub room : SameRoom lent now
  pub shorter : length rest ≤ length text

pub fits_first : (r : Reader) (s : List ℕ) → Fits r r s s
fits_first r s = record { room = (refl, refl); shorter = omega arith }

module _ {lent now : Reader} {text rest : List ℕ} (f : Fits lent now text rest) {x : Step} {more : List ℕ} (l : LineAt rest x more) where
  pub fits_on : (next : Reader) → SameRoom now next → Fits lent next text more
  fits_on next same = record { room = (same.0 ∙ f.room.0, same.1 ∙ f.room.1); shorter = omega (arith, f.shorter, l.shorter) }
