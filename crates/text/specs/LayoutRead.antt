-- What the functions that read the lines of a job promise.
use Rattle.std.specs.Prelude.{ℕ, ◌<◌, min, List, ◌≡◌, length, MatchOption}
use Rattle.std.specs.Prelude as answered
use Rattle.std.specs.Borrow.{Bor}
use Prim.Native.String.{String}
use Rattle.std.proofs.Math.Option.{none, some}
use Rattle.search.specs.Line as line
use Rattle.search.specs.Searched.{limits_of}
use Rattle.search.specs.declared.bounded_search.Limits.{Limits}
use Rattle.text.specs.declared.job.written.Written.{Written}
use Rattle.text.specs.Bytes.{ascii, read_number}
use Rattle.text.specs.Layout.{limit_line, limit_lines}
use Rattle.text.specs.FindJob.{Layouts, layouts}
use Rattle.text.specs.RightLines.{rights_in}

-- a number above 4,096, which no limit may be, is taken for 4,097
abbrev pub capped : line.Limits → line.Limits
capped m = record { steps = min m.steps 4097; size = min m.size 4097; depth = min m.depth 4097; nodes = min m.nodes 4097 }

-- the text is a number, and n is what it is taken for
pub record LimitRead (text : List ℕ) (n : ℕ) : Type 0 where
  pub number : ℕ
  pub is : n ≡ min number 4097
  pub read : read_number text ≡ some number

-- of `limit`
abbrev pub ReadsLimit : List ℕ → answered.Option ℕ → Type 0
ReadsLimit text o = MatchOption o (read_number text ≡ none) (λ n. LimitRead text n)

-- the line of a limit with this key begins a text, its number is n, and what follows the line
pub record LimitAt (s : List ℕ) (key : List ℕ) (n : ℕ) (rest : List ℕ) : Type 0 where
  pub shorter : length rest < length s
  pub number : ℕ
  pub is : n ≡ min number 4097
  pub parts : (k : String) → ascii k ≡ key → limit_line k s ≡ some (record { number = number; rest = rest })

-- no line of a limit with that key begins it
abbrev pub Unlimited : (s key : List ℕ) → Type 0
Unlimited s key = (k : String) → ascii k ≡ key → limit_line k s ≡ none

-- of `limit_line`
abbrev pub LimitIn : (s key : List ℕ) → answered.Option (ℕ × Bor (List ℕ)) → Type 0
LimitIn s key o = MatchOption o (Unlimited s key) (λ v. LimitAt s key v.0 v.1.now)

-- the last four lines hold these limits
pub record LimitedBy (bs : List ℕ) (m : Limits) : Type 0 where
  pub limits : line.Limits
  pub is : limits_of m ≡ capped limits
  pub lines : limit_lines bs ≡ some limits

-- of `limit_lines`
abbrev pub LimitsIn : List ℕ → answered.Option Limits → Type 0
LimitsIn bs o = MatchOption o (limit_lines bs ≡ none) (λ m. LimitedBy bs m)

-- the sides as they are written, with these limits
abbrev pub sides_with : Written → line.Limits → Layouts
sides_with w m = record { left = w.left.now; rights = rights_in w.lines.now w.rights; limits = m }

-- the lines of a job
pub record LaidOut (s : List ℕ) (w : Written) : Type 0 where
  pub left_within : length w.left.now < length s
  pub lines_within : length w.lines.now < length s
  pub limits : line.Limits
  pub is : limits_of w.limits ≡ capped limits
  pub lines : layouts s ≡ some (sides_with w limits)

-- of `layout_of`
abbrev pub LaysOut : List ℕ → answered.Option Written → Type 0
LaysOut s o = MatchOption o (layouts s ≡ none) (λ w. LaidOut s w)
