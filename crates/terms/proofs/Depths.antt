-- The depths of the terms that a list spells, and the extent of one put together from those of its parts.
use Prim.Native.Nat.{ℕ, zero, suc, ◌+◌, ◌<◌, ◌≤◌, max}
use native.Mathlib.Omega.{arith}
use mathlib.Core.Path.{◌≡◌, refl, sym, ap, ◌∙◌}
use mathlib.Core.Logic.{⊎_elim}
use mathlib.Core.List.{List, [], ◌∷◌, ◌++◌, append_assoc, append-nil}
use lib.ListN.{length, drop, get_or, length-drop, drop_of_length-le}
use lib.Seq.{drop-nil, drop-drop, get_or-drop}
use borrow.Author.Tests.{lt-ltb, le-ltb}
use Rattle.terms.specs.Term as term
use Rattle.terms.specs.Term.{Term, letter, add, mul, depth}
use Rattle.terms.specs.Run.{ZERO, ONE, ADD, MUL, run}
use Rattle.terms.specs.Held.{Fine, IsRun}
use Rattle.terms.specs.Numbers.{skip, end_at, deepen, depths, depth_of}
use Rattle.terms.specs.Promises.{Extends, Deep}
use Rattle.terms.specs.Theory.Order.{below?}
use Rattle.terms.specs.declared.term.Extent.{Extent}
use Rattle.terms.proofs.Positions.{drop_one}
use Rattle.terms.proofs.Skipped.{skip_none, skip_add}

depths_atom : (x : ℕ) (xs : List ℕ) → x < ADD → depths (x ∷ xs) ≡ 0 ∷ depths xs
unfolding depths
depths_atom x xs h = rw (lt-ltb x ADD h, depths)

depths_two : (x : ℕ) (xs : List ℕ) → ADD ≤ x → depths (x ∷ xs) ≡ deepen (depths xs)
unfolding depths
depths_two x xs h = rw (le-ltb x ADD h, depths)

drop_two : (k : ℕ) (ds : List ℕ) → drop (suc (suc k)) ds ≡ drop k (drop 2 ds)
drop_two k ds = let e : suc (suc k) ≡ 2 + k = omega arith in rw (drop-drop k 2 ds, e)

-- the depths of what is left after k terms
depths_skip : (xs : List ℕ) (k : ℕ) → depths (drop (skip xs k) xs) ≡ drop k (depths xs)
unfolding skip depths
depths_skip [] k = sym (drop-nil k)
depths_skip (x ∷ xs) zero = refl
depths_skip (x ∷ xs) (suc k) =
    ⊎_elim
    (λ h. rw (lt-ltb x ADD h, depths_atom x xs h) (depths_skip xs k))
    (λ h. rw (le-ltb x ADD h, depths_two x xs h) (depths_skip xs (suc (suc k)) ∙ drop_two k (depths xs)))
    (below? x ADD)

within_one : {n : ℕ} (d : ℕ) (ds : List ℕ) → ((k : ℕ) → get_or ds k 0 ≤ n) → d ≤ suc n → (k : ℕ) → get_or (d ∷ ds) k 0 ≤ suc n
within_one d ds f h zero = h
within_one d ds f h (suc k) = omega (arith, f k)

-- no term is deeper than the list is long
depths_within : (xs : List ℕ) (k : ℕ) → get_or (depths xs) k 0 ≤ length xs
unfolding depths
depths_within [] k = omega arith
depths_within (x ∷ xs) k =
    ⊎_elim
    (λ h. rw (depths_atom x xs h) (within_one 0 (depths xs) (depths_within xs) (omega arith) k))
    (λ h. let ds = depths xs in
    let later : (j : ℕ) → get_or (drop 2 ds) j 0 ≤ length xs = λ j. rw (get_or-drop 2 ds j 0) (depths_within xs (2 + j)) in
    rw (depths_two x xs h) (within_one (1 + max (get_or ds 0 0) (get_or ds 1 0)) (drop 2 ds) later (omega (arith, depths_within xs 0, depths_within xs 1)) k))
    (below? x ADD)

depths_parts : (x : ℕ) (s t : Term) (ys : List ℕ) → ADD ≤ x → depths (run s ++ (run t ++ ys)) ≡ depth s ∷ depths (run t ++ ys) → depths (run t ++ ys) ≡ depth t ∷ depths ys
    → depths (x ∷ (run s ++ run t) ++ ys) ≡ (1 + max (depth s) (depth t)) ∷ depths ys
depths_parts x s t ys h e d = rw (append_assoc (run s) (run t) ys, depths_two x (run s ++ (run t ++ ys)) h, e, d)

depths_run : (t : Term) (ys : List ℕ) → Fine t → depths (run t ++ ys) ≡ depth t ∷ depths ys
unfolding run depth Fine
depths_run (letter n) ys f = depths_atom n ys (omega arith)
depths_run term.zero ys f = depths_atom ZERO ys (omega arith)
depths_run term.one ys f = depths_atom ONE ys (omega arith)
depths_run (add s t) ys f = depths_parts ADD s t ys (omega arith) (depths_run s (run t ++ ys) f.0) (depths_run t ys f.1)
depths_run (mul s t) ys f = depths_parts MUL s t ys (omega arith) (depths_run s (run t ++ ys) f.0) (depths_run t ys f.1)

pub depth_run : {xs : List ℕ} {t : Term} → IsRun xs t → depth_of xs ≡ depth t
unfolding depth_of
depth_run {t = t} h = rw (h.whole ∙ sym (append-nil (run t)), depths_run t [] h.fine)

pub deep : {xs : List ℕ} {r : ℕ} → r ≡ depth_of xs → Deep xs r
deep e = record { is = e; terms = λ t h. e ∙ depth_run h }

-- the extent of the term at a position, by the number there

module _ (xs : List ℕ) (at : ℕ) where
  extends : (r : Extent) → r.end ≡ end_at xs at → r.depth ≡ depth_of (drop at xs) → Extends xs at r
  unfolding end_at depth_of
  extends r e d =
      record {
        ends = e;
        deep = d;
        forward = omega arith;
        fits = omega (arith, depths_within (drop at xs) 0, length-drop at xs);
      }

  pub extends_past : length xs ≤ at → Extends xs at (record { end = at; depth = 0 })
  unfolding end_at depth_of skip depths
  extends_past h = extends _ (rw (drop_of_length-le xs h) (omega arith)) (rw (drop_of_length-le xs h))

  module _ (h : at < length xs) where
    pub extends_atom : get_or xs at 0 < ADD → Extends xs at (record { end = at + 1; depth = 0 })
    unfolding end_at depth_of skip
    extends_atom q =
        extends _
        (rw (drop_one xs at h, lt-ltb (get_or xs at 0) ADD q) (omega (arith, skip_none (drop (at + 1) xs))))
        (rw (drop_one xs at h, depths_atom (get_or xs at 0) (drop (at + 1) xs) q))

    module _ (q : ADD ≤ get_or xs at 0) (l r : Extent) (L : Extends xs (at + 1) l) (R : Extends xs l.end r) where
      abbrev rest : List ℕ
      rest = drop (at + 1) xs

      -- what is left after the left part
      second : drop l.end xs ≡ drop (skip rest 1) rest
      unfolding end_at
      second = rw L.ends (sym (drop-drop (skip rest 1) (at + 1) xs))

      node_ends : r.end ≡ end_at xs at
      unfolding end_at skip
      node_ends =
          rw (drop_one xs at h, le-ltb (get_or xs at 0) ADD q)
          (omega (arith, L.ends, R.ends, ap (λ l. skip l 1) second, skip_add rest 1 1))

      node_deep : 1 + max l.depth r.depth ≡ depth_of (drop at xs)
      unfolding depth_of
      node_deep =
          rw (drop_one xs at h, depths_two (get_or xs at 0) rest q, L.deep, R.deep, second, depths_skip rest 1, get_or-drop 1 (depths rest) 0 0)

      pub extends_node : (d : ℕ) → d ≡ max l.depth r.depth → Extends xs at (record { end = r.end; depth = d + 1 })
      extends_node d p = extends _ node_ends (omega (arith, node_deep))
