-- What the functions that answer FIND go by.
use Rattle.std.specs.Prelude.{ℕ, ◌<◌, ◌≡◌, Bool, true, false, List, length}
use Rattle.std.proofs.Math.Option.{none}
use Rattle.terms.specs.Lists.{◌∈◌}
use Rattle.terms.specs.Term.{Term}
use Rattle.terms.specs.Held.{IsRun}
use Rattle.search.specs.Law.{semiring}
use Rattle.search.specs.Line as line
use Rattle.search.specs.Line.{Line}
use Rattle.search.specs.Search.{Noted, terms, direct}
use Rattle.search.specs.Serve as serve
use Rattle.search.specs.Cut as search-cut
use Rattle.search.specs.Runs.{HeldRuns}
use Rattle.search.specs.Slots.{noted_at, Slots}
use Rattle.search.specs.Replied.{Replied}
use Rattle.search.specs.Searched.{Ends, Answers}
use Rattle.search.specs.declared.replies.Reply.{Reply}
use Rattle.search.specs.declared.replies.Reply.TheVariants as reply
use Rattle.search.specs.declared.bounded_search.Stop.TheVariants.{All, Over, Full}
use Rattle.search.specs.declared.bounded_search.Ended.{Ended}
use Rattle.text.specs.Job.{Job, Accepted}
use Rattle.text.specs.FindJob.{jobs_of}

-- the runs of an accepted job's sides
pub record Sides (left right : List ℕ) (j : Job) : Type 0 where
  pub known : Accepted j
  pub left_run : IsRun left j.left
  pub right_run : IsRun right j.right

-- the lines xs lead from s, which is noted in slot 0, to the term that is noted in slot k
pub record Led (ws : List ℕ) (s : Term) (k : ℕ) (xs : List Line) : Type 0 where
  pub noted : List Noted
  pub slots : Slots ws noted
  pub start : (noted_at noted 0).term ≡ s
  pub within : k < length noted
  pub trail : (noted_at noted k).trail ≡ xs

-- the search that serves the job's right side among others
abbrev pub one_search : ℕ → Job → List Term → serve.Served
one_search slots j ts = serve.serve semiring j.limits slots j.left ts

-- what that search left of a job's right side: how it ended, and where it is noted
pub record Known (left right : List ℕ) (reply : Reply) (ended : Ended) (cut : Bool) (ws : List ℕ) (slots : ℕ) (j : Job) : Type 0 where
  pub sides : Sides left right j
  pub others : List Term
  pub among : j.right ∈ others
  pub ends : Ends ended ws (one_search slots j others)
  pub replied : Replied semiring j.left j.right (terms (one_search slots j others).noted) reply
  pub cut_is : ended.stop ≡ Over → cut ≡ search-cut.cut semiring j.limits j.left

-- likewise of a right side that matches no law directly and is noted in slot k
pub record Met (ws : List ℕ) (k slots : ℕ) (j : Job) : Type 0 where
  pub others : List Term
  pub among : j.right ∈ others
  pub held : Slots ws (one_search slots j others).noted
  pub indirect : direct semiring j.left j.right ≡ none
  pub within : k < length (one_search slots j others).noted
  pub is : (noted_at (one_search slots j others).noted k).term ≡ j.right

-- likewise of one that is not noted
pub record Unmet (ended : Ended) (cut : Bool) (slots : ℕ) (j : Job) : Type 0 where
  pub others : List Term
  pub among : j.right ∈ others
  pub ws : List ℕ
  pub ends : Ends ended ws (one_search slots j others)
  pub indirect : direct semiring j.left j.right ≡ none
  pub missing : j.right ∈ terms (one_search slots j others).noted → ⊥
  pub cut_is : ended.stop ≡ Over → cut ≡ search-cut.cut semiring j.limits j.left

-- the jobs of s with each of ts, after the one search for all
pub record AllKnown (left rights : List ℕ) (replies : List Reply) (ended : Ended) (cut : Bool) (ws : List ℕ) (slots : ℕ) (s : Term) (ts : List Term) (m : line.Limits) : Type 0 where
  pub known : (j : Job) → j ∈ jobs_of s ts m → Accepted j
  pub left_run : IsRun left s
  pub runs : HeldRuns rights ts
  pub count : length ts ≡ length replies
  pub answers : Answers semiring m slots s ts ws replies ended
  pub cut_is : ended.stop ≡ Over → cut ≡ search-cut.cut semiring m s

-- a right side has no answer: it is not noted, and the search was not over
abbrev pub runs_out : Reply → Ended → Bool
runs_out reply.Unnoted ended = elim ended.stop [ All ↦ true | Over ↦ false | Full ↦ true ]
runs_out (reply.Direct w) ended = false
runs_out (reply.Noted k) ended = false
