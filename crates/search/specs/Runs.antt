-- Terms in the first slots of a workspace, 40 numbers to a slot, and the index over them. Number 0 of a slot is the length of its term's
-- run, 1 to 4 are the term's origin, 5 to 7 are of the index, the run stands from 8 on, and 39 is a value to which the search gives a meaning.
use Rattle.std.specs.Prelude.{ℕ, ◌+◌, ◌*◌, ◌≤◌, ◌<◌, ◌≡◌, Bool, true, ◌⊎◌, ◌↔◌, cond, List, [], leb, length, take, drop, get_or, set, Option, Some, None}
use Rattle.terms.specs.Lists.{◌∈◌}
use Rattle.terms.specs.Term.{Term, zero, size, same}
use Rattle.terms.specs.Run.{run}
use Rattle.terms.specs.Held.{IsRun, Holds}
use Rattle.search.specs.Origins.{origin_at}
use Rattle.search.specs.Index.{SLOT, slots_of, hash, bucket, head_of, next_of, hash_of, Newest}
use Rattle.search.specs.declared.slots.Origin.{Origin}

-- slot k has the run of t
pub record Spells (ws : List ℕ) (k : ℕ) (t : Term) : Type 0 where
  pub count : get_or ws (SLOT * k) 0 ≡ size t
  pub small : size t ≤ 31
  pub held : Holds ws (SLOT * k + 8) t

abbrev pub origin_of : List ℕ → ℕ → Origin
origin_of ws k = origin_at ws (SLOT * k + 1)

abbrev pub value_of : List ℕ → ℕ → ℕ
value_of ws k = get_or ws (SLOT * k + 39) 0

-- the term in slot k
abbrev pub term_at : List Term → ℕ → Term
term_at ts k = get_or ts k zero

-- the bucket of the term in slot k
abbrev pub home : List ℕ → List Term → ℕ → ℕ
home ws ts k = bucket (slots_of (length ws)) (run (term_at ts k))

-- the head of a term's bucket is the newest slot in it, and each slot leads to the next older one in its bucket and has the hash of its
-- run; nothing is said of the head of a bucket that no term has
pub record Indexed (ws : List ℕ) (ts : List Term) : Type 0 where
  pub head : (k : ℕ) → k < length ts → Newest (home ws ts) (home ws ts k) (length ts) (head_of ws (home ws ts k))
  pub next : (k : ℕ) → k < length ts → Newest (home ws ts) (home ws ts k) k (next_of ws k)
  pub hashed : (k : ℕ) → k < length ts → hash_of ws k ≡ hash (run (term_at ts k)) 0

-- the first slots have the terms, in order; nothing is said of the other slots but for the index
pub record Runs (ws : List ℕ) (ts : List Term) : Type 0 where
  pub spelled : (k : ℕ) → k < length ts → Spells ws k (term_at ts k)
  pub index : Indexed ws ts

-- the first slots have the terms with their hashes, in no index
pub record HeldRuns (ws : List ℕ) (ts : List Term) : Type 0 where
  pub spelled : (k : ℕ) → k < length ts → Spells ws k (term_at ts k)
  pub hashed : (k : ℕ) → k < length ts → hash_of ws k ≡ hash (run (term_at ts k)) 0

-- what the functions promise

-- of `origin_of`
pub record Originates (ws : List ℕ) (k : ℕ) (o : Origin) : Type 0 where
  pub exact : (t : Term) → Spells ws k t → o ≡ origin_of ws k

-- the numbers of the run in slot k: none where the slot is cut short
abbrev pub shown : List ℕ → ℕ → List ℕ
shown ws k = cond (leb (SLOT * k + 8 + get_or ws (SLOT * k) 0) (length ws)) (take (get_or ws (SLOT * k) 0) (drop (SLOT * k + 8) ws)) []

-- of `run_of`
pub record Shows (ws : List ℕ) (k : ℕ) (xs : List ℕ) : Type 0 where
  pub is : xs ≡ shown ws k
  pub exact : (t : Term) → Spells ws k t → IsRun xs t

-- of `newest`: the newest of the first `count` slots in bucket b
pub record Heads (ws : List ℕ) (count b r : ℕ) : Type 0 where
  pub exact : (ts : List Term) → Runs ws ts → length ts ≡ count → Newest (home ws ts) b count r

-- of `has_run`, for a run with hash h
pub record Compares (ws : List ℕ) (k : ℕ) (xs : List ℕ) (h : ℕ) (r : Bool) : Type 0 where
  pub exact : (ts : List Term) (t : Term) → HeldRuns ws ts → k < length ts → IsRun xs t → h ≡ hash xs 0 → r ≡ same t (term_at ts k)

-- the slot that is found is one of the first `count`
abbrev pub FoundWithin : ℕ → Option ℕ → Type 0
FoundWithin count (Some k) = k < count
FoundWithin count None = Unit {0}

-- it has t, or no slot has
abbrev pub FoundIn : List Term → Term → Option ℕ → Type 0
FoundIn ts t (Some k) = term_at ts k ≡ t
FoundIn ts t None = t ∈ ts → ⊥

-- of `find`
pub record Seeks (ws : List ℕ) (count : ℕ) (xs : List ℕ) (r : Option ℕ) : Type 0 where
  pub within : FoundWithin count r
  pub exact : (ts : List Term) (t : Term) → Runs ws ts → length ts ≡ count → IsRun xs t → FoundIn ts t r

-- of `contains`: whether a slot is found
pub record Finds (ws : List ℕ) (count : ℕ) (xs : List ℕ) (r : Bool) : Type 0 where
  pub exact : (ts : List Term) (t : Term) → Runs ws ts → length ts ≡ count → IsRun xs t → (r ≡ true) ↔ (t ∈ ts)

-- of `write_slot`: slot k is written, those before it stay, and so do numbers 6 and 7 of all
pub record Writes (before after : List ℕ) (k : ℕ) (xs : List ℕ) (o : Origin) (v : ℕ) : Type 0 where
  pub size : length after ≡ length before
  pub kept : take (SLOT * k) after ≡ take (SLOT * k) before
  pub index : (j i : ℕ) → 6 ≤ i → i ≤ 7 → get_or after (SLOT * j + i) 0 ≡ get_or before (SLOT * j + i) 0
  pub run : (t : Term) → IsRun xs t → Spells after k t
  pub origin : origin_of after k ≡ o
  pub value : value_of after k ≡ v

-- of `write_origin`: slot k has another origin and value, and all other numbers stay
pub record Rewrites (before after : List ℕ) (k : ℕ) (o : Origin) (v : ℕ) : Type 0 where
  pub size : length after ≡ length before
  pub kept : (i : ℕ) → (i ≤ SLOT * k) ⊎ ((SLOT * k + 5 ≤ i) × (i ≡ SLOT * k + 39 → ⊥)) → get_or after i 0 ≡ get_or before i 0
  pub origin : origin_of after k ≡ o
  pub value : value_of after k ≡ v

-- of `hold_slot`: slot k is written, with the hash of its run, and those before it stay
pub record HoldsRun (before after : List ℕ) (k : ℕ) (xs : List ℕ) : Type 0 where
  pub size : length after ≡ length before
  pub kept : take (SLOT * k) after ≡ take (SLOT * k) before
  pub run : (t : Term) → IsRun xs t → Spells after k t
  pub hashed : hash_of after k ≡ hash xs 0

-- of `note_slot`: slot k is written, with the hash of its run, leads to the newest older one in its bucket, and is the head now
pub record Enters (before after : List ℕ) (k : ℕ) (xs : List ℕ) (o : Origin) (v : ℕ) : Type 0 where
  pub room : SLOT * k + SLOT ≤ length before
  pub written : List ℕ
  pub writes : Writes before written k xs o v
  pub older : ℕ
  pub newest : Heads before k (bucket (slots_of (length before)) xs) older
  pub links : after ≡ set (set (set written (SLOT * k + 5) (hash xs 0)) (SLOT * k + 7) older) (SLOT * bucket (slots_of (length before)) xs + 6) k
