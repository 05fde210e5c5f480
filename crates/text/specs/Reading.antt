-- What the reader finds in a text.
use Rattle.std.specs.Prelude.{ℕ, ◌+◌, ◌≤◌, ◌<◌, true, false, List, ◌≡◌, leb, length, Result, Ok, Err, MatchOption}
use Rattle.std.specs.Prelude as answered
use Rattle.std.specs.Borrow.{Bor}
use Prim.Native.String.{String}
use Rattle.std.proofs.Math.Option.{Option, none, some}
use Rattle.terms.specs.Run.{MUL}
use Rattle.terms.specs.Build.{Token}
use Rattle.terms.specs.Numbers as numbers
use Rattle.text.specs.declared.job.NumberError.{NumberError}
use Rattle.text.specs.declared.job.NumberError.TheVariants.{TooLarge, Malformed}
use Rattle.text.specs.Bytes.{ascii, up_to}
use Rattle.text.specs.TermText.{token}
use Rattle.text.specs.Layout.{keyed}

-- a number that was read, against the largest that is allowed
unfoldable pub limited : ℕ → Option ℕ → Result ℕ NumberError
limited most none = Err Malformed
limited most (some n) = elim (leb n most) [ true ↦ Ok n | false ↦ Err TooLarge ]

-- the text up to the next byte b, and what follows that
pub record CutAt (s : List ℕ) (b : ℕ) (front rest : List ℕ) : Type 0 where
  pub shorter : length front + length rest < length s
  pub parts : up_to b s ≡ some (record { front = front; rest = rest })

-- the text up to the next byte b and what follows that, if there is one
abbrev pub Cuts : (s : List ℕ) (b : ℕ) → answered.Option (Bor (List ℕ) × Bor (List ℕ)) → Type 0
Cuts s b o = MatchOption o (up_to b s ≡ none) (λ v. CutAt s b v.0.now v.1.now)

-- a line with its key begins a text: its value, and what follows the line
pub record Valued (s key value rest : List ℕ) : Type 0 where
  pub shorter : length value + length rest < length s
  pub parts : (k : String) → ascii k ≡ key → keyed k s ≡ some (record { front = value; rest = rest })

-- no line with that key begins it
abbrev pub Unkeyed : (s key : List ℕ) → Type 0
Unkeyed s key = (k : String) → ascii k ≡ key → keyed k s ≡ none

-- the value of such a line and what follows it, if there is one
abbrev pub Values : (s key : List ℕ) → answered.Option (Bor (List ℕ) × Bor (List ℕ)) → Type 0
Values s key o = MatchOption o (Unkeyed s key) (λ v. Valued s key v.0.now v.1.now)

-- what an item stands for is what a number of a run stands for
pub record Numbered (t : Option Token) (x : ℕ) : Type 0 where
  pub small : x ≤ MUL
  pub same : t ≡ numbers.token x

-- the number that stands for the same as an item, if the item stands for anything
abbrev pub Stands : Option Token → answered.Option ℕ → Type 0
Stands t o = MatchOption o (t ≡ none) (λ x. Numbered t x)

-- the number for an item of a term
abbrev pub Items : List ℕ → answered.Option ℕ → Type 0
Items bs = Stands (token bs)
