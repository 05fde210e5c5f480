-- What becomes of each right side in a search: it is not noted, a law matches it and left directly, or it is noted in a slot.
use Rattle.std.specs.Prelude.{ℕ, ◌≤◌, ◌<◌, ◌≡◌, cond, List, [], ◌∷◌, length, get_or}
use Rattle.std.proofs.Math.Option.{Option, none, some}
use Rattle.terms.specs.Lists.{◌∈◌}
use Rattle.terms.specs.Term.{Term, size, same}
use Rattle.terms.specs.Held.{IsRun}
use Rattle.search.specs.Law as law
use Rattle.search.specs.Law.{Name}
use Rattle.search.specs.Search.{direct}
use Rattle.search.specs.Serve.{times}
use Rattle.search.specs.Coded.{name_of}
use Rattle.search.specs.Index.{hash}
use Rattle.search.specs.Runs.{term_at, HeldRuns}
use Rattle.search.specs.declared.replies.Reply.{Reply}
use Rattle.search.specs.declared.replies.Reply.TheVariants.{Unnoted, Direct, Noted}

-- of the right side with a number; past the end it is not noted
abbrev pub reply_at : List Reply → ℕ → Reply
reply_at fs k = get_or fs k Unnoted

-- the right sides that are not noted: the search waits for them
unfoldable pub waiting : List Term → List Reply → List Term
waiting [] fs = []
waiting (t ∷ ts) [] = []
waiting (t ∷ ts) (Unnoted ∷ fs) = t ∷ waiting ts fs
waiting (t ∷ ts) (Direct w ∷ fs) = waiting ts fs
waiting (t ∷ ts) (Noted k ∷ fs) = waiting ts fs

-- against the law that matches directly, if there is one
abbrev pub Directly : Option Name → Reply → Type 0
Directly o Unnoted = o ≡ none
Directly o (Direct w) = o ≡ some (name_of w)
Directly o (Noted k) = ⊥

-- against the terms that are noted
abbrev pub Noticed : List Term → Term → Reply → Type 0
Noticed us t Unnoted = t ∈ us → ⊥
Noticed us t (Direct w) = ⊥
Noticed us t (Noted k) = (k < length us) × (term_at us k ≡ t)

-- against both: of a right side that matches directly nothing is said of where it is noted
abbrev pub Replied : List law.Law → Term → Term → List Term → Reply → Type 0
Replied ws s t us Unnoted = (direct ws s t ≡ none) × (t ∈ us → ⊥)
Replied ws s t us (Direct w) = direct ws s t ≡ some (name_of w)
Replied ws s t us (Noted k) = (direct ws s t ≡ none) × (k < length us) × (term_at us k ≡ t)

-- the right sides that wait and are t, r of them, have slot k now
pub record Struck (k : ℕ) (t : Term) (ts : List Term) (before after : List Reply) (r : ℕ) : Type 0 where
  pub kept : length after ≡ length before
  pub counted : r ≡ times t (waiting ts before)
  pub still : (i : ℕ) → (reply_at before i ≡ Unnoted → ⊥) → reply_at after i ≡ reply_at before i
  pub told : (i : ℕ) → i < length ts → reply_at before i ≡ Unnoted → reply_at after i ≡ cond (same (term_at ts i) t) (Noted k) Unnoted

-- what became of the right sides that waited, against the terms that are noted
pub record Settled (us ts : List Term) (before after : List Reply) : Type 0 where
  pub kept : length after ≡ length before
  pub still : (k : ℕ) → (reply_at before k ≡ Unnoted → ⊥) → reply_at after k ≡ reply_at before k
  pub noticed : (k : ℕ) → k < length ts → reply_at before k ≡ Unnoted → Noticed us (term_at ts k) (reply_at after k)

-- what the functions promise

-- of `match_rights`: the right sides that left matches directly are told, and r others wait
pub record Matched (ws : List law.Law) (left rights : List ℕ) (before after : List Reply) (r : ℕ) : Type 0 where
  pub kept : length after ≡ length before
  pub directly : (s : Term) (ts : List Term) → IsRun left s → size s ≤ 31 → HeldRuns rights ts → length ts ≡ length before
      → (k : ℕ) → k < length ts → Directly (direct ws s (term_at ts k)) (reply_at after k)
  pub others : (ts : List Term) → length ts ≡ length before → r ≡ length (waiting ts after)

-- of `strike`: the run xs, whose hash is h, is noted in slot k
pub record Strikes (rights xs : List ℕ) (h k : ℕ) (before after : List Reply) (r : ℕ) : Type 0 where
  pub exact : (ts : List Term) (t : Term) → HeldRuns rights ts → length ts ≡ length before → IsRun xs t → h ≡ hash xs 0 → Struck k t ts before after r
