-- The hash of a run, a number at a time, and what a comparison with the run in a slot says.
use Prim.Native.Nat.{ℕ, ◌+◌, ◌*◌, ◌≤◌, ◌<◌}
use native.Mathlib.Omega.{arith}
use native.Mathlib.Nat.{mod-lt, mul-lt-mul_of_pos_right}
use mathlib.Core.Path.{◌≡◌, sym, ◌∙◌}
use mathlib.Core.Bool.{Bool, false}
use mathlib.Core.List.{List, [], ◌∷◌}
use lib.ListN.{length, drop, get_or, drop_of_length-le}
use Rattle.terms.specs.Promises.{Equals}
use Rattle.terms.proofs.Positions.{drop_one}
use Rattle.terms.specs.Theory.TermOrder.{told_apart}
use Rattle.search.specs.Index.{mix, hash, bucket_at, hash_of}
use Rattle.search.specs.Runs.{term_at, Shows, Compares}

module _ (xs : List ℕ) (i h : ℕ) where
  pub hash_next : i < length xs → hash (drop i xs) h ≡ hash (drop (i + 1) xs) (mix h (get_or xs i 0))
  unfolding hash
  hash_next p = rw (drop_one xs i p)

  pub hash_ends : length xs ≤ i → hash (drop i xs) h ≡ h
  unfolding hash
  hash_ends p = rw (drop_of_length-le xs p)

pub mix_small : (h x : ℕ) → mix h x < 4294967296
mix_small h x = mod-lt (h * 2654435769 + x * 1640531521) (omega arith)

pub hash_small : (xs : List ℕ) (h : ℕ) → h < 4294967296 → hash xs h < 4294967296
unfolding hash
hash_small [] h p = p
hash_small (x ∷ xs) h p = hash_small xs (mix h x) (mix_small h x)

pub bucket_small : {n h : ℕ} → 0 < n → h < 4294967296 → bucket_at n h < n
bucket_small {n} {h} p q =
    let r : h * n < 4294967296 * n = mul-lt-mul_of_pos_right q p in
    omega arith

-- a run with hash h against that in slot k
module _ {ws : List ℕ} {k : ℕ} {xs : List ℕ} {h : ℕ} where
  pub compared : {ys : List ℕ} {b : Bool} → Shows ws k ys → Equals xs ys b → Compares ws k xs h b
  compared Sh e = record { exact = λ ts t R p r q. e.terms t (term_at ts k) r (Sh.exact (term_at ts k) (R.spelled k p)) }

  pub hash_differs : (hash_of ws k ≡ h → ⊥) → Compares ws k xs h false
  hash_differs f =
      record {
        exact = λ ts t R p r q.
            sym (told_apart t (term_at ts k) (λ e. f (R.hashed k p ∙ rw (← e, ← r.whole) (sym q))));
      }
