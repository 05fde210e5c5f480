-- The index of a workspace with 40 numbers to a slot: as many buckets as slots, a bucket for each run. Number 6 of slot b leads to the
-- newest slot whose run is in bucket b, number 7 of a slot to the next older one in the same bucket, and number 5 is the hash of its run.
use Rattle.std.specs.Prelude.{ℕ, ◌+◌, ◌*◌, ◌/◌, ◌%◌, ◌≤◌, ◌<◌, min, ◌≡◌, List, [], ◌∷◌, get_or}

abbrev pub SLOT : ℕ
SLOT = 40

-- how many slots a workspace of n numbers has; those past 65,535 are not used
abbrev pub slots_of : ℕ → ℕ
slots_of n = min 65535 (n / SLOT)

-- a number x taken into h; the two factors together are below 2^32, so that the sum is below 2^64 where h and x are below 2^32
abbrev pub mix : ℕ → ℕ → ℕ
mix h x = (h * 2654435769 + x * 1640531521) % 4294967296

-- the numbers of a list, one after the other, taken into h
unfoldable pub hash : List ℕ → ℕ → ℕ
hash [] h = h
hash (x ∷ xs) h = hash xs (mix h x)

-- the bucket of a hash below 2^32 among n, and of a run
abbrev pub bucket_at : ℕ → ℕ → ℕ
bucket_at n h = (h * n) / 4294967296

abbrev pub bucket : ℕ → List ℕ → ℕ
bucket n xs = bucket_at n (hash xs 0)

abbrev pub head_of : List ℕ → ℕ → ℕ
head_of ws b = get_or ws (SLOT * b + 6) 0

abbrev pub next_of : List ℕ → ℕ → ℕ
next_of ws k = get_or ws (SLOT * k + 7) 0

abbrev pub hash_of : List ℕ → ℕ → ℕ
hash_of ws k = get_or ws (SLOT * k + 5) 0

-- k is the newest slot below n whose bucket is b, or n if there is none
pub record Newest (home : ℕ → ℕ) (b n k : ℕ) : Type 0 where
  pub within : k ≤ n
  pub own : k < n → home k ≡ b
  pub last : (j : ℕ) → j < n → home j ≡ b → (j ≤ k) × (k < n)
