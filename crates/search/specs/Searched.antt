-- What the search answers, with the noted terms in a workspace.
use Rattle.std.specs.Prelude.{ℕ, ◌≤◌, ◌<◌, ◌≡◌, Bool, true, false, List, [], ◌∷◌, ◌++◌, ltb, length, take, Option, Some, None}
use Rattle.terms.specs.Lists.{◌∈◌}
use Rattle.terms.specs.Term.{Term, size}
use Rattle.terms.specs.Held.{IsRun}
use Rattle.search.specs.Law.{Law}
use Rattle.search.specs.Line as line
use Rattle.search.specs.Line.{Line, results}
use Rattle.search.specs.Search.{Noted, terms, entry}
use Rattle.search.specs.Explore.{start}
use Rattle.search.specs.Serve as serve
use Rattle.search.specs.Serve.{Served, stopped, serve_on}
use Rattle.search.specs.Cut.{cut}
use Rattle.search.specs.Runs.{term_at, Spells, HeldRuns}
use Rattle.search.specs.Slots.{noted_at, Slots}
pub use Rattle.search.specs.Index.{slots_of}
use Rattle.search.specs.Ordered.{Result, Ordered, unknown}
use Rattle.search.specs.Resulted.{most_nodes}
use Rattle.search.specs.Replied.{reply_at, waiting, Replied, Struck, Settled}
use Rattle.search.specs.declared.bounded_search.Limits.{Limits}
use Rattle.search.specs.declared.replies.Reply.{Reply}
use Rattle.search.specs.declared.bounded_search.Stop.{Stop}
use Rattle.search.specs.declared.bounded_search.Stop.TheVariants.{All, Over, Full}
use Rattle.search.specs.declared.bounded_search.Ended.{Ended}

abbrev pub limits_of : Limits → line.Limits
limits_of m = record { steps = m.steps; size = m.size; depth = m.depth; nodes = m.nodes }

abbrev pub stop_of : Stop → serve.Stop
stop_of All = serve.all
stop_of Over = serve.over
stop_of Full = serve.full

-- the one search ended so, and ws has its noted terms
pub record Ends (r : Ended) (ws : List ℕ) (s : Served) : Type 0 where
  pub stop : stop_of r.stop ≡ s.stop
  pub opened : r.opened ≡ s.opened
  pub noted : r.noted ≡ length s.noted
  pub slots : Slots ws s.noted

-- what the functions promise, each for a list of laws

-- of `open`, with room for n results
pub record Opens (laws : List Law) (ws : List ℕ) (noted i : ℕ) (m : Limits) (n : ℕ) (res order : List ℕ) (r : ℕ) : Type 0 where
  pub few : r ≤ n
  pub exact : (ns : List Noted) (t : Term) → Slots ws ns → length ns ≡ noted → Spells ws i t → size t ≤ most_nodes n → m.size ≤ 31
      → Ordered t i res r (take r order) (unknown ns (results laws (limits_of m) t))

-- a slot is left for what is noted
abbrev pub HasRoom : Option ℕ → ℕ → ℕ → Type 0
HasRoom (Some c) count slots = count < slots
HasRoom None count slots = Unit {0}

-- a line on the noted term n, taken in a search for ts, of which c are equal to its result; ws has the noted terms afterwards
abbrev pub Became : Option ℕ → ℕ → List ℕ → List Noted → Noted → Line → List Term → List Reply → List Reply → Type 0
Became (Some c) slots ws ns n x ts before after = Slots ws (ns ++ (entry n.trail x ∷ [])) × Struck (length ns) x.result ts before after c
Became None slots ws ns n x ts before after = (slots ≤ length ns) × Slots ws ns × (after ≡ before)

-- of `take`: slot k of res has a result of a noted term, whose distance is d
pub record Takes (ws : List ℕ) (count slots : ℕ) (res : List ℕ) (k d : ℕ) (rights : List ℕ) (before : List Reply) (r : Option ℕ) (ws' : List ℕ) (after : List Reply) : Type 0 where
  pub room : HasRoom r count slots
  pub exact : (ns : List Noted) (i : ℕ) (x : Line) (ts : List Term) → Slots ws ns → length ns ≡ count → i < count → Result (noted_at ns i).term i res k x
      → d ≡ length (noted_at ns i).trail → HeldRuns rights ts → length ts ≡ length before → Became r slots ws' ns (noted_at ns i) x ts before after

-- the one search for ts ended so, with each right side that waited told
abbrev pub Concludes : Ended → List ℕ → List Term → List Reply → List Reply → Served → Type 0
Concludes r ws ts before after v = Ends r ws v × Settled (terms v.noted) ts before after

-- of `explore`, which has room for the results of terms of at most `most` nodes; left is none of the right sides
pub record Explores (laws : List Law) (rights : List ℕ) (n : ℕ) (m : Limits) (slots most : ℕ) (ws ws' : List ℕ) (before after : List Reply) (r : Ended) : Type 0 where
  pub exact : (s : Term) (ts : List Term) → Slots ws (start s) → HeldRuns rights ts → length ts ≡ length before → n ≡ length (waiting ts before)
      → (s ∈ ts → ⊥) → size s ≤ most → m.size ≤ most
      → Concludes r ws' ts before after (serve_on (results laws (limits_of m)) m.steps slots (waiting ts before) m.nodes 0 (start s))

-- a search from s that waits for ts: s is noted in the first slot, if there is one
abbrev pub begins : List Law → line.Limits → ℕ → Term → List Term → Served
begins laws m slots s ts =
    elim (ltb 0 slots) [
      | false ↦ stopped serve.full 0 []
      | true ↦ serve_on (results laws m) m.steps slots ts m.nodes 0 (start s)
    ]

-- of `explore_from`
pub record Begins (laws : List Law) (left rights : List ℕ) (n : ℕ) (m : Limits) (ws ws' : List ℕ) (before after : List Reply) (r : Ended) : Type 0 where
  pub exact : (s : Term) (ts : List Term) → IsRun left s → size s ≤ 31 → HeldRuns rights ts → length ts ≡ length before → n ≡ length (waiting ts before)
      → (s ∈ ts → ⊥) → m.size ≤ 31 → Concludes r ws' ts before after (begins laws (limits_of m) (slots_of (length ws)) s (waiting ts before))

-- how a search ended, and what became of each right side
pub record Answers (laws : List Law) (m : line.Limits) (slots : ℕ) (s : Term) (ts : List Term) (ws : List ℕ) (replies : List Reply) (r : Ended) : Type 0 where
  pub ends : Ends r ws (serve.serve laws m slots s ts)
  pub replied : (k : ℕ) → k < length ts → Replied laws s (term_at ts k) (terms (serve.serve laws m slots s ts).noted) (reply_at replies k)

-- of `search_bounded_rewrite`
pub record Searches (laws : List Law) (left rights : List ℕ) (m : Limits) (ws ws' : List ℕ) (replies replies' : List Reply) (r : Ended) : Type 0 where
  pub kept : length replies' ≡ length replies
  pub exact : (s : Term) (ts : List Term) → IsRun left s → size s ≤ 31 → HeldRuns rights ts → length ts ≡ length replies → (s ∈ ts → ⊥) → m.size ≤ 31
      → Answers laws (limits_of m) (slots_of (length ws)) s ts ws' replies' r

-- of `is_cut`
pub record Cuts (ws : List ℕ) (r : Ended) (m : Limits) (b : Bool) : Type 0 where
  pub exact : (laws : List Law) (slots : ℕ) (s : Term) (ts : List Term) → slots ≤ slots_of (length ws)
      → Ends r ws (serve.serve laws (limits_of m) slots s ts) → r.stop ≡ Over → b ≡ cut laws (limits_of m) s
