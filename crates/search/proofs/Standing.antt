-- Where the search stands in its loops: the noted terms in turn, and for each its results in turn.
use Prim.Native.Nat.{ℕ, ◌+◌, ◌-◌, ◌≤◌}
use native.Mathlib.Nat.{sub-zero}
use mathlib.Core.Path.{◌≡◌, refl, sym, ap, ◌∙◌}
use mathlib.Core.Logic.{⊎_elim}
use mathlib.Core.List.{List, [], ◌∷◌}
use lib.ListN.{length, drop}
use Rattle.terms.specs.Lists.{◌∈◌, here, there, not-in-nil, cons-cases, only_one}
use Rattle.terms.specs.Term.{Term, size}
use Rattle.search.specs.Law.{Law}
use Rattle.search.specs.Line.{Line, results}
use Rattle.search.specs.Search.{Noted, terms}
use Rattle.search.specs.Explore.{start}
use Rattle.search.specs.Serve.{unnoted, Taking, take_results, Served, serve_on}
use Rattle.search.specs.Runs.{HeldRuns}
use Rattle.search.specs.Slots.{noted_at, Slots}
use Rattle.search.specs.Ordered.{Ordered}
use Rattle.search.specs.Replied.{waiting, Settled}
use Rattle.search.specs.Searched.{limits_of, Concludes, Explores}
use Rattle.search.specs.declared.replies.Reply.{Reply}
use Rattle.search.specs.declared.replies.Reply.TheVariants as reply
use Rattle.search.specs.declared.replies.Reply.TheVariants.{Unnoted, Direct}
use Rattle.search.specs.declared.bounded_search.Limits.{Limits}
use Rattle.search.specs.declared.bounded_search.Stop.{Stop}
use Rattle.search.specs.declared.bounded_search.Ended.{Ended}
use Rattle.search.proofs.Unknown.{Fresh}
use Rattle.search.proofs.Serving.{after, unnoted_start}
use Rattle.search.proofs.Settling.{settled_start}

-- a right side that waits is a right side
waiting_in : (ts : List Term) (fs : List Reply) {t : Term} → t ∈ waiting ts fs → t ∈ ts
unfolding waiting
waiting_in [] fs m = m
waiting_in (u ∷ ts) [] m = absurd (not-in-nil m)
waiting_in (u ∷ ts) (Unnoted ∷ fs) m = ⊎_elim here (λ n. there (waiting_in ts fs n)) (cons-cases m)
waiting_in (u ∷ ts) (Direct w ∷ fs) m = there (waiting_in ts fs m)
waiting_in (u ∷ ts) (reply.Noted k ∷ fs) m = there (waiting_in ts fs m)

-- the noted terms have at most so many nodes
abbrev pub Small : ℕ → List Noted → Type 0
Small most ns = (x : Noted) → x ∈ ns → size x.term ≤ most

-- what a search is for, which starts with what a workspace has, ws₀: `waits` right sides, and terms of at most so many nodes
pub record Asked (rights : List ℕ) (before : List Reply) (waits : ℕ) (m : Limits) (most : ℕ) (ws₀ : List ℕ) (s : Term) (ts : List Term) : Type 0 where
  pub begun : Slots ws₀ (start s)
  pub listed : HeldRuns rights ts
  pub each : length ts ≡ length before
  pub all : waits ≡ length (waiting ts before)
  pub other : s ∈ ts → ⊥
  pub fits : size s ≤ most
  pub limit : m.size ≤ most

abbrev pub ended : Stop → ℕ → ℕ → Ended
ended s i count = record { stop = s; opened = i; noted = count }

abbrev pub next : List Law → Limits → Term → List Line
next laws m = results laws (limits_of m)

module _ (laws : List Law) (m : Limits) (slots : ℕ) where
  abbrev pub going : List Term → ℕ → ℕ → List Noted → Served
  going = serve_on (next laws m) m.steps slots

  abbrev pub following : List Term → ℕ → Taking → Served
  following ts i = after (next laws m) m.steps slots ts (m.nodes - (i + 1)) (i + 1)

  -- v is the end of the search for ts from where it is: `count` terms are noted, `missing` right sides are not, fs tells of each, and the i-th
  -- term is next to open
  pub record Stands (v : Served) (most : ℕ) (ts : List Term) (before : List Reply) (ws : List ℕ) (fs : List Reply) (missing count i : ℕ) : Type 0 where
    pub ns : List Noted
    pub held : Slots ws ns
    pub counted : length ns ≡ count
    pub small : Small most ns
    pub left : missing ≡ length (unnoted (waiting ts before) ns)
    pub settled : Settled (terms ns) ts before fs
    pub is : v ≡ going (waiting ts before) (m.nodes - i) i ns

  -- v is that end where the i-th term, at distance d, is open, with results in the slots ks of res, of which the j-th is next to take
  pub record Midway (v : Served) (most : ℕ) (ts : List Term) (before : List Reply) (ws : List ℕ) (fs : List Reply) (missing count i d : ℕ) (res ks : List ℕ) (j : ℕ) : Type 0 where
    pub ns : List Noted
    pub held : Slots ws ns
    pub counted : length ns ≡ count
    pub small : Small most ns
    pub left : missing ≡ length (unnoted (waiting ts before) ns)
    pub settled : Settled (terms ns) ts before fs
    pub distance : d ≡ length (noted_at ns i).trail
    pub lines : List Line
    pub room : ℕ
    pub ordered : Ordered (noted_at ns i).term i res room ks lines
    pub fresh : Fresh ns lines j
    pub kept : (x : Line) → x ∈ lines → size x.result ≤ most
    pub is : v ≡ following (waiting ts before) i (take_results slots (waiting ts before) (noted_at ns i).trail (drop j lines) ns)

  module _ (rights : List ℕ) (before : List Reply) where
    abbrev pub whole : Term → List Term → Served
    whole s ts = going (waiting ts before) m.nodes 0 (start s)

    -- what holds of the end of every search
    abbrev pub Always : ℕ → ℕ → List ℕ → (Served → List Term → Type 0) → Type 0
    Always waits most ws₀ P =
        (s : Term) (ts : List Term) → Asked rights before waits m most ws₀ s ts → P (whole s ts) ts

    -- the outer loop's invariant, and where the inner loop begins

    abbrev pub Standing : ℕ → ℕ → List ℕ → List ℕ → List Reply → ℕ → ℕ → ℕ → Type 0
    Standing waits most ws₀ ws fs missing count i = Always waits most ws₀ (λ v ts. Stands v most ts before ws fs missing count i)

    abbrev pub Opened : ℕ → ℕ → List ℕ → List ℕ → List Reply → ℕ → ℕ → ℕ → ℕ → List ℕ → List ℕ → Type 0
    Opened waits most ws₀ ws fs missing count i d res ks =
        Always waits most ws₀ (λ v ts. Midway v most ts before ws fs missing count i d res ks 0)

    pub starts : (waits most : ℕ) (ws : List ℕ) → Standing waits most ws ws before waits 1 0
    starts waits most ws s ts A =
        record {
          ns = start s;
          held = A.begun;
          counted = refl;
          small = λ x n. rw (only_one n) A.fits;
          left = A.all ∙ ap length (sym (unnoted_start s (waiting ts before) (λ n. A.other (waiting_in ts before n))));
          settled = settled_start s ts before A.other;
          is = rw (sub-zero m.nodes);
        }

    pub explores : {waits most : ℕ} {ws₀ ws : List ℕ} {fs : List Reply} (r : Ended) → Always waits most ws₀ (λ v ts. Concludes r ws ts before fs v)
        → Explores laws rights waits m slots most ws₀ ws before fs r
    explores r E =
        record { exact = λ s ts S R l n d h k. E s ts (record { begun = S; listed = R; each = l; all = n; other = d; fits = h; limit = k }) }

  -- the inner loop's invariant: how the results were taken since the term was opened
  abbrev pub Progress : List ℕ → ℕ → ℕ → List ℕ → List ℕ → List ℕ → List Reply → ℕ → ℕ → List ℕ → List Reply → ℕ → ℕ → ℕ → Type 0
  Progress rights i d res ks ws₁ fs₁ missing₁ count₁ ws fs missing count j =
      (v : Served) (most : ℕ) (ts : List Term) (before : List Reply) → HeldRuns rights ts → length ts ≡ length before
      → Midway v most ts before ws₁ fs₁ missing₁ count₁ i d res ks 0 → Midway v most ts before ws fs missing count i d res ks j
