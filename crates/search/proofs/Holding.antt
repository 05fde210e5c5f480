-- Terms in slots with their hashes, in no index: one more is held.
use Prim.Native.Nat.{ℕ, ◌+◌, ◌*◌, ◌≤◌, ◌<◌}
use native.Mathlib.Omega.{arith}
use mathlib.Core.Path.{◌≡◌, ◌∙◌}
use mathlib.Core.Logic.{◌⊎◌, inl, inr}
use mathlib.Core.List.{List, [], ◌∷◌, ◌++◌}
use lib.ListN.{length, set, length-set}
use lib.Seq.{get_or-set_same, take-set-le}
use Rattle.terms.specs.Term.{Term}
use Rattle.terms.specs.Run.{run}
use Rattle.terms.specs.Held.{IsRun}
use Rattle.terms.proofs.Positions.{front_getD}
use Rattle.search.specs.Index.{SLOT, hash, hash_of}
use Rattle.search.specs.Runs.{Spells, term_at, Runs, HeldRuns, Writes, HoldsRun}
use Rattle.search.specs.declared.slots.Origin.{Origin}
use Rattle.search.proofs.Writing.{run_kept}
use Rattle.search.proofs.Indexing.{run_stored, term_before, term_last, old_or_new}

-- what the store of the hash leaves of a slot that is written
pub holds_run : {ws written : List ℕ} {k : ℕ} {xs : List ℕ} {o : Origin} {v : ℕ} → SLOT * k + SLOT ≤ length ws → Writes ws written k xs o v
    → HoldsRun ws (set written (SLOT * k + 5) (hash xs 0)) k xs
holds_run {written = written} {k} {xs} room W =
    record {
      size = length-set written (SLOT * k + 5) (hash xs 0) ∙ W.size;
      kept = take-set-le (SLOT * k) written (SLOT * k + 5) (hash xs 0) (omega arith) ∙ W.kept;
      run = λ t r. run_stored written k 5 (hash xs 0) (omega arith) (omega arith) k t (W.run t r);
      hashed = get_or-set_same written (SLOT * k + 5) (hash xs 0) 0 (omega (arith, room, W.size));
    }

pub runs_held : {ws : List ℕ} {ts : List Term} → Runs ws ts → HeldRuns ws ts
runs_held R = record { spelled = R.spelled; hashed = R.index.hashed }

-- no slot
pub none_held : (ws : List ℕ) → HeldRuns ws []
none_held ws = record { spelled = λ k q. absurd (omega arith); hashed = λ k q. absurd (omega arith) }

-- one more term in the slots
pub held_more : {ws ws' : List ℕ} (ts : List Term) (t : Term) {xs : List ℕ} → HoldsRun ws ws' (length ts) xs → HeldRuns ws ts → IsRun xs t
    → HeldRuns ws' (ts ++ (t ∷ []))
held_more {ws} {ws'} ts t {xs} W R r = record { spelled = λ k h. spells k (old_or_new ts t k h); hashed = λ k h. hashes k (old_or_new ts t k h) }
  where
    spells : (k : ℕ) → (k ≡ length ts) ⊎ (k < length ts) → Spells ws' k (term_at (ts ++ (t ∷ [])) k)
    spells k (inl e) = rw (e, term_last ts t) (W.run t r)
    spells k (inr e) = rw (term_before ts t k e) (run_kept ws ws' (length ts) W.kept k (term_at ts k) e (R.spelled k e))

    hashes : (k : ℕ) → (k ≡ length ts) ⊎ (k < length ts) → hash_of ws' k ≡ hash (run (term_at (ts ++ (t ∷ [])) k)) 0
    hashes k (inl e) = rw (e, W.hashed, term_last ts t, ← r.whole)
    hashes k (inr e) =
        rw (term_before ts t k e) (front_getD ws ws' (SLOT * length ts) (SLOT * k + 5) W.kept (omega arith) ∙ R.hashed k e)
