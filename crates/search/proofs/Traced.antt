-- The lines of a path, one by one, as they stand in the slots that `path_of` lists.
use Prim.Native.Nat.{ℕ, suc, ◌<◌}
use native.Mathlib.Omega.{arith}
use mathlib.Core.List.{List, ◌∷◌}
use lib.ListN.{length, get_or}
use Rattle.search.specs.Line.{Line}
use Rattle.search.specs.Search.{Noted}
use Rattle.search.specs.Traced.{Linked, Traced, none, more}
use Rattle.search.proofs.Rising.{line_at}

-- line i leads from the slot before, slot j for the first, to slot i of those that are listed
pub traced_at : {ws : List ℕ} {ns : List Noted} {j : ℕ} {ks : List ℕ} {xs : List Line} → Traced ws ns j ks xs → (i : ℕ) → i < length ks
    → Linked ws ns (get_or (j ∷ ks) i 0) (get_or ks i 0) (line_at xs i)
traced_at none i h = absurd (omega arith)
traced_at (more h T) ℕ.zero q = h
traced_at (more h T) (suc i) q = traced_at T i (omega arith)
