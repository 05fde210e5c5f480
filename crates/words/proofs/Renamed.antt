-- The new name looked up, and runs renamed.
use Rattle.std.proofs.Common.{◌≡◌, ℕ, ◌+◌, ◌<◌, ◌≤◌, Bool, true, false, cond, eqb, Option, Some, None, List, [], ◌∷◌, length, get_or, drop, set, sym, refl, ap, ◌∙◌, ⊎_elim, min, add-one, arith, drop-cons, drop_of_length-le, le-ltb, lt-ltb}
use Rattle.std.specs.List.{position, position_from}
use Rattle.std.proofs.lemmas.List.{get_or_past, get_or-map}
use Rattle.std.proofs.lemmas.Bool.{cases_lt}
use Rattle.std.proofs.lemmas.Iterator.Adapters.{position_from-zero}
use lib.ListN.{length-map}
use lib.Seq.{sets}
use Rattle.terms.specs.Run.{ZERO}
use Rattle.words.specs.Rename.{renamed}
use Rattle.words.specs.RenameRun.{rename_number, rename_run}
use Rattle.words.proofs.Stores.{store_next, store_full, store_done}

-- the number at a place, or n itself
module _ (ps : List ℕ) (n : ℕ) where
  abbrev pub beside : Option ℕ → ℕ
  beside None = n
  beside (Some i) = get_or ps i n

  none_beside : (ms : List ℕ) (i : ℕ) → length ps ≤ i → n ≡ beside (position_from (eqb n) i ms)
  none_beside [] i h = refl
  none_beside (m ∷ ms) i h = go (eqb n m) (none_beside ms (i + 1) (omega arith))
    where
      go : (b : Bool) → n ≡ beside (position_from (eqb n) (i + 1) ms) → n ≡ beside (cond b (Some i) (position_from (eqb n) (i + 1) ms))
      go true later = sym (get_or_past ps i n h)
      go false later = later

  renamed_from : (ms : List ℕ) (i : ℕ) → renamed ms (drop i ps) n ≡ beside (position_from (eqb n) i ms)
  unfolding renamed
  renamed_from [] i = refl
  renamed_from (m ∷ ms) i =
      ⊎_elim (λ h. rw (drop-cons ps i n h, ← add-one i) (go (eqb n m) (renamed_from ms (i + 1))))
      (λ h. rw (drop_of_length-le ps h) (none_beside (m ∷ ms) i h)) (cases_lt i (length ps))
    where
      go : (b : Bool) → renamed ms (drop (i + 1) ps) n ≡ beside (position_from (eqb n) (i + 1) ms)
          → elim b [ true ↦ get_or ps i n | false ↦ renamed ms (drop (i + 1) ps) n ] ≡ beside (cond b (Some i) (position_from (eqb n) (i + 1) ms))
      go true later = refl
      go false later = later

  pub renamed_at : (ms : List ℕ) (o : Option ℕ) → o ≡ position (eqb n) ms → beside o ≡ renamed ms ps n
  renamed_at ms o e = ap beside (e ∙ position_from-zero (eqb n) ms) ∙ sym (renamed_from ms 0)

module _ (f : ℕ → ℕ) (x : ℕ) where
  pub letter_renamed : x < ZERO → f x ≡ rename_number f x
  unfolding rename_number
  letter_renamed h = rw (lt-ltb x ZERO h, rename_number)

  pub other_stays : ZERO ≤ x → x ≡ rename_number f x
  unfolding rename_number
  other_stays h = rw (le-ltb x ZERO h, rename_number)

-- a run renamed, one number after another

-- the numbers from i on are still to be stored
module _ (f : ℕ → ℕ) (xs out zs : List ℕ) (i : ℕ) (e : sets out i (drop i (rename_run f xs)) ≡ zs) where
  pub renaming_next : {v : ℕ} → i < length xs → v ≡ rename_number f (get_or xs i 0) → sets (set out i v) (i + 1) (drop (i + 1) (rename_run f xs)) ≡ zs
  renaming_next h p =
      rw (p, ← get_or-map (rename_number f) xs i 0 0 h) (store_next out (rename_run f xs) zs i i e (rw (length-map xs (rename_number f)) h))

  pub renaming_ended : min (length xs) (length out) ≤ i → out ≡ zs
  renaming_ended h =
      ⊎_elim (λ l. store_full out (rename_run f xs) zs i i e (omega arith)) (λ l. store_done out (rename_run f xs) zs i i e (rw (length-map xs (rename_number f)) l))
      (cases_lt i (length xs))
