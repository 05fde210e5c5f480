-- A slot noted: it is written, and the index leads to it. What is said of the index is what three stores to it leave.
use Prim.Native.Nat.{ℕ, ◌+◌, ◌*◌, ◌≤◌, ◌<◌}
use native.Mathlib.Omega.{arith}
use native.Mathlib.Nat.{eq-or-lt_of_le, le_of_suc-le-suc}
use mathlib.Core.Path.{◌≡◌, refl, sym, ap, ◌∙◌}
use mathlib.Core.Logic.{◌⊎◌, inl, inr}
use mathlib.Core.List.{List, [], ◌∷◌, ◌++◌}
use lib.ListN.{length, set, length-set, length-append, get_or-append}
use lib.Seq.{get_or_at, get_or-set_same, get_or-set_other, take-set-le, drop-set-lt}
use Rattle.terms.specs.Term.{Term, zero}
use Rattle.terms.specs.Run.{run}
use Rattle.terms.specs.Held.{IsRun, Holds}
use Rattle.terms.specs.Theory.Order.{below?}
use Rattle.terms.proofs.Positions.{front_getD}
use Rattle.terms.proofs.Held.{front_holds}
use Rattle.search.specs.Index.{SLOT, slots_of, hash, bucket, head_of, next_of, hash_of, Newest}
use Rattle.search.specs.Runs.{Spells, origin_of, value_of, term_at, home, Runs, Rewrites, Enters}
use Rattle.search.specs.declared.slots.Origin.{Origin}
use Rattle.search.proofs.Hashing.{hash_small, bucket_small}
use Rattle.search.proofs.Origins.{origin_same}
use Rattle.search.proofs.Writing.{run_kept, origin_kept, value_kept, behind_kept, run_stays}

pub equal? : (a b : ℕ) → (a ≡ b) ⊎ (a ≡ b → ⊥)
equal? a b = go (below? a b) (below? b a)
  where
    go : (a < b) ⊎ (b ≤ a) → (b < a) ⊎ (a ≤ b) → (a ≡ b) ⊎ (a ≡ b → ⊥)
    go (inl h) q = inr (λ e. omega arith)
    go (inr h) (inl q) = inr (λ e. omega arith)
    go (inr h) (inr q) = inl (omega arith)

-- a number of the index stored, number i of slot j: each slot keeps what it has
module _ (ws : List ℕ) (j i v : ℕ) (low : 5 ≤ i) (high : i < 8) where
  pub run_stored : (k : ℕ) (t : Term) → Spells ws k t → Spells (set ws (SLOT * j + i) v) k t
  run_stored k t s =
      record {
        count = get_or-set_other ws (SLOT * j + i) (SLOT * k) v 0 (λ e. omega arith) ∙ s.count;
        small = s.small;
        held = go (below? (SLOT * j + i) (SLOT * k + 8));
      }
    where
      go : (SLOT * j + i < SLOT * k + 8) ⊎ (SLOT * k + 8 ≤ SLOT * j + i) → Holds (set ws (SLOT * j + i) v) (SLOT * k + 8) t
      go (inl h) =
          record { fine = s.held.fine; rest = s.held.rest; here = drop-set-lt (SLOT * k + 8) ws (SLOT * j + i) v h ∙ s.held.here }
      go (inr h) =
          front_holds ws (set ws (SLOT * j + i) v) (SLOT * j + i) (take-set-le (SLOT * j + i) ws (SLOT * j + i) v (omega arith)) (omega (arith, s.small)) s.held

  origin_stored : (k : ℕ) → origin_of (set ws (SLOT * j + i) v) k ≡ origin_of ws k
  origin_stored k =
      origin_same ws (set ws (SLOT * j + i) v) (SLOT * k + 1)
      (λ p h. get_or-set_other ws (SLOT * j + i) (SLOT * k + 1 + p) v 0 (λ e. omega arith))

  value_stored : (k : ℕ) → value_of (set ws (SLOT * j + i) v) k ≡ value_of ws k
  value_stored k = get_or-set_other ws (SLOT * j + i) (SLOT * k + 39) v 0 (λ e. omega arith)

newest_still : {f g : ℕ → ℕ} {b n k : ℕ} → ((j : ℕ) → j < n → f j ≡ g j) → Newest f b n k → Newest g b n k
newest_still {k = k} e N = record { within = N.within; own = λ h. sym (e k h) ∙ N.own h; last = λ j h q. N.last j h (e j h ∙ q) }

-- one more slot, of another bucket
newest_more : {f : ℕ → ℕ} {b n k : ℕ} → Newest f b n k → k < n → (f n ≡ b → ⊥) → Newest f b (n + 1) k
newest_more {f} {b} {n} {k} N h e =
    record { within = omega arith; own = λ q. N.own h; last = λ j q g. go j g (eq-or-lt_of_le (le_of_suc-le-suc (omega (arith, q)))) }
  where
    go : (j : ℕ) → f j ≡ b → (j ≡ n) ⊎ (j < n) → (j ≤ k) × (k < n + 1)
    go j g (inl q) = absurd (e (sym (ap f q) ∙ g))
    go j g (inr q) = ((N.last j q g).0, omega arith)

module _ (ts : List Term) (t : Term) where
  pub term_before : (k : ℕ) → k < length ts → term_at (ts ++ (t ∷ [])) k ≡ term_at ts k
  term_before k h = get_or-append ts (t ∷ []) zero k h

  pub term_last : term_at (ts ++ (t ∷ [])) (length ts) ≡ t
  term_last = get_or_at ts t [] zero (length ts) refl

  -- a slot is one of the old ones, or the new one
  pub old_or_new : (k : ℕ) → k < length (ts ++ (t ∷ [])) → (k ≡ length ts) ⊎ (k < length ts)
  old_or_new k h = eq-or-lt_of_le (le_of_suc-le-suc (omega (arith, h, length-append ts (t ∷ []))))

-- a slot is noted
module _ {ws ws' : List ℕ} {count : ℕ} {xs : List ℕ} {o : Origin} {v : ℕ} (E : Enters ws ws' count xs o v) where
  abbrev b : ℕ
  b = bucket (slots_of (length ws)) xs

  abbrev hashed : List ℕ
  hashed = set E.written (SLOT * count + 5) (hash xs 0)

  abbrev linked : List ℕ
  linked = set hashed (SLOT * count + 7) E.older

  -- the links leave runs, origins and values as they are written

  run_linked : (k : ℕ) (t : Term) → Spells E.written k t → Spells ws' k t
  run_linked k t s =
      rw E.links
      (run_stored linked b 6 count (omega arith) (omega arith) k t
      (run_stored hashed count 7 E.older (omega arith) (omega arith) k t
      (run_stored E.written count 5 (hash xs 0) (omega arith) (omega arith) k t s)))

  origin_linked : (k : ℕ) → origin_of ws' k ≡ origin_of E.written k
  origin_linked k =
      rw E.links
      (origin_stored linked b 6 count (omega arith) (omega arith) k
      ∙ origin_stored hashed count 7 E.older (omega arith) (omega arith) k
      ∙ origin_stored E.written count 5 (hash xs 0) (omega arith) (omega arith) k)

  value_linked : (k : ℕ) → value_of ws' k ≡ value_of E.written k
  value_linked k =
      rw E.links
      (value_stored linked b 6 count (omega arith) (omega arith) k
      ∙ value_stored hashed count 7 E.older (omega arith) (omega arith) k
      ∙ value_stored E.written count 5 (hash xs 0) (omega arith) (omega arith) k)

  pub origin_new : origin_of ws' count ≡ o
  origin_new = origin_linked count ∙ E.writes.origin

  pub value_new : value_of ws' count ≡ v
  value_new = value_linked count ∙ E.writes.value

  pub origin_still : (k : ℕ) → k < count → origin_of ws' k ≡ origin_of ws k
  origin_still k h = origin_linked k ∙ origin_kept ws E.written count E.writes.kept k h

  pub value_still : (k : ℕ) → k < count → value_of ws' k ≡ value_of ws k
  value_still k h = value_linked k ∙ value_kept ws E.written count E.writes.kept k h

  hashed_long : length hashed ≡ length ws
  hashed_long = length-set E.written (SLOT * count + 5) (hash xs 0) ∙ E.writes.size

  linked_long : length linked ≡ length ws
  linked_long = length-set hashed (SLOT * count + 7) E.older ∙ hashed_long

  pub long : length ws' ≡ length ws
  long = ap length E.links ∙ length-set linked (SLOT * b + 6) count ∙ linked_long

  inside : SLOT * b + 6 < length ws
  inside =
      let h : 0 < slots_of (length ws) = omega (arith, E.room) in
      omega (arith, bucket_small h (hash_small xs 0 (omega arith)))

  head_new : head_of ws' b ≡ count
  head_new = rw E.links (get_or-set_same linked (SLOT * b + 6) count 0 (omega (arith, linked_long, inside)))

  head_still : (c : ℕ) → (c ≡ b → ⊥) → head_of ws' c ≡ head_of ws c
  head_still c h =
      rw E.links
      (get_or-set_other linked (SLOT * b + 6) (SLOT * c + 6) count 0 (λ e. h (omega arith))
      ∙ get_or-set_other hashed (SLOT * count + 7) (SLOT * c + 6) E.older 0 (λ e. omega arith)
      ∙ get_or-set_other E.written (SLOT * count + 5) (SLOT * c + 6) (hash xs 0) 0 (λ e. omega arith)
      ∙ E.writes.index c 6 (omega arith) (omega arith))

  next_new : next_of ws' count ≡ E.older
  next_new =
      rw E.links
      (get_or-set_other linked (SLOT * b + 6) (SLOT * count + 7) count 0 (λ e. omega arith)
      ∙ get_or-set_same hashed (SLOT * count + 7) E.older 0 (omega (arith, E.room, hashed_long)))

  next_still : (k : ℕ) → k < count → next_of ws' k ≡ next_of ws k
  next_still k h =
      rw E.links
      (get_or-set_other linked (SLOT * b + 6) (SLOT * k + 7) count 0 (λ e. omega arith)
      ∙ get_or-set_other hashed (SLOT * count + 7) (SLOT * k + 7) E.older 0 (λ e. omega arith)
      ∙ get_or-set_other E.written (SLOT * count + 5) (SLOT * k + 7) (hash xs 0) 0 (λ e. omega arith)
      ∙ E.writes.index k 7 (omega arith) (omega arith))

  -- the links leave the hash that is written
  hash_stored : (k : ℕ) → hash_of ws' k ≡ hash_of hashed k
  hash_stored k =
      rw E.links
      (get_or-set_other linked (SLOT * b + 6) (SLOT * k + 5) count 0 (λ e. omega arith)
      ∙ get_or-set_other hashed (SLOT * count + 7) (SLOT * k + 5) E.older 0 (λ e. omega arith))

  hash_new : hash_of ws' count ≡ hash xs 0
  hash_new = hash_stored count ∙ get_or-set_same E.written (SLOT * count + 5) (hash xs 0) 0 (omega (arith, E.room, E.writes.size))

  hash_still : (k : ℕ) → k < count → hash_of ws' k ≡ hash_of ws k
  hash_still k h =
      hash_stored k ∙ get_or-set_other E.written (SLOT * count + 5) (SLOT * k + 5) (hash xs 0) 0 (λ e. omega arith)
      ∙ front_getD ws E.written (SLOT * count) (SLOT * k + 5) E.writes.kept (omega arith)

-- one more term in the slots
module _ {ws ws' : List ℕ} (ts : List Term) (t : Term) {xs : List ℕ} {o : Origin} {v : ℕ} (E : Enters ws ws' (length ts) xs o v) (R : Runs ws ts) (r : IsRun xs t) where
  abbrev more : List Term
  more = ts ++ (t ∷ [])

  abbrev count : ℕ
  count = length ts

  abbrev own : ℕ
  own = bucket (slots_of (length ws)) xs

  home_still : (j : ℕ) → j < count → home ws ts j ≡ home ws' more j
  home_still j h = rw (long E, term_before ts t j h)

  home_new : home ws' more count ≡ own
  home_new = rw (long E, term_last ts t, ← r.whole)

  counted : length more ≡ count + 1
  counted = length-append ts (t ∷ [])

  heads : (k : ℕ) → k < length more → Newest (home ws' more) (home ws' more k) (length more) (head_of ws' (home ws' more k))
  heads k h = go (equal? (home ws' more k) own) (old_or_new ts t k h)
    where
      go : (home ws' more k ≡ own) ⊎ (home ws' more k ≡ own → ⊥) → (k ≡ count) ⊎ (k < count)
          → Newest (home ws' more) (home ws' more k) (length more) (head_of ws' (home ws' more k))
      go (inl e) p = rw (e, head_new E, counted) (record { within = omega arith; own = λ q. home_new; last = λ j q f. (omega arith, omega arith) })
      go (inr e) (inl p) = absurd (e (ap (home ws' more) p ∙ home_new))
      go (inr e) (inr p) =
          let N = R.index.head k p in
          rw (head_still E (home ws' more k) e, counted, ← (home_still k p))
          (newest_more (newest_still home_still N) (N.last k p refl).1 (λ f. e (sym (home_still k p) ∙ sym f ∙ home_new)))

  nexts : (k : ℕ) → k < length more → Newest (home ws' more) (home ws' more k) k (next_of ws' k)
  nexts k h = go (old_or_new ts t k h)
    where
      go : (k ≡ count) ⊎ (k < count) → Newest (home ws' more) (home ws' more k) k (next_of ws' k)
      go (inl e) = rw (e, next_new E, home_new) (newest_still home_still (E.newest.exact ts R refl))
      go (inr e) =
          rw (next_still E k e, ← (home_still k e)) (newest_still (λ j p. home_still j (omega arith)) (R.index.next k e))

  hashes : (k : ℕ) → k < length more → hash_of ws' k ≡ hash (run (term_at more k)) 0
  hashes k h = go (old_or_new ts t k h)
    where
      go : (k ≡ count) ⊎ (k < count) → hash_of ws' k ≡ hash (run (term_at more k)) 0
      go (inl e) = rw (e, hash_new E, term_last ts t, ← r.whole)
      go (inr e) = rw (hash_still E k e, term_before ts t k e) (R.index.hashed k e)

  spells : (k : ℕ) → k < length more → Spells ws' k (term_at more k)
  spells k h = run_linked E k (term_at more k) (go (old_or_new ts t k h))
    where
      go : (k ≡ count) ⊎ (k < count) → Spells E.written k (term_at more k)
      go (inl e) = rw (e, term_last ts t) (E.writes.run t r)
      go (inr e) = rw (term_before ts t k e) (run_kept ws E.written count E.writes.kept k (term_at ts k) e (R.spelled k e))

  pub entered : Runs ws' more
  entered = record { spelled = spells; index = record { head = heads; next = nexts; hashed = hashes } }

-- an origin and a value are written: runs and index stay
module _ {ws ws' : List ℕ} {j : ℕ} {o : Origin} {v : ℕ} (E : Rewrites ws ws' j o v) (ts : List Term) (R : Runs ws ts) where
  home_stays : (k : ℕ) → home ws ts k ≡ home ws' ts k
  home_stays k = rw E.size refl

  pub rewritten : Runs ws' ts
  rewritten =
      record {
        spelled = λ k h. run_stays E k (term_at ts k) (R.spelled k h);
        index =
            record {
              head = λ k h. rw (E.size, behind_kept E (home ws ts k) 6 (omega arith) (omega arith)) (newest_still (λ i p. home_stays i) (R.index.head k h));
              next = λ k h. rw (E.size, behind_kept E k 7 (omega arith) (omega arith)) (newest_still (λ i p. home_stays i) (R.index.next k h));
              hashed = λ k h. behind_kept E k 5 (omega arith) (omega arith) ∙ R.index.hashed k h;
            };
      }

-- no slot
pub no_runs : (ws : List ℕ) → Runs ws []
no_runs ws =
    record {
      spelled = λ k q. absurd (omega arith);
      index = record { head = λ k q. absurd (omega arith); next = λ k q. absurd (omega arith); hashed = λ k q. absurd (omega arith) };
    }
