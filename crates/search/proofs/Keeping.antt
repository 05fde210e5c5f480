-- A result put among those in term order.
use Prim.Native.Nat.{ℕ, suc, ◌+◌, ◌*◌, ◌≤◌, ◌<◌}
use native.Mathlib.Omega.{arith}
use native.Mathlib.Numerals.{add-one}
use mathlib.Core.Path.{◌≡◌, refl, ap, ◌∙◌}
use mathlib.Core.Bool.{Bool, true, false}
use mathlib.Core.List.{List, [], ◌∷◌, ◌++◌}
use lib.ListN.{length, take, drop, get_or}
use lib.Seq.{take-suc, take_at, length-take-le}
use Rattle.std.specs.Prelude.{Option, Some, None}
use Rattle.terms.specs.Term.{Term}
use Rattle.terms.specs.Held.{IsRun}
use Rattle.terms.specs.Sort.{lost, insert_all}
use Rattle.terms.specs.Numbers.{put_in}
use Rattle.terms.proofs.Inserted.{put_in_room}
use Rattle.search.specs.Line.{Line, by_result}
use Rattle.search.specs.Search.{Noted}
use Rattle.search.specs.Index.{SLOT}
use Rattle.search.specs.Runs.{Finds, Writes}
use Rattle.search.specs.Slots.{Slots}
use Rattle.search.specs.Ordered.{Result, Named, none, more, inserted, unknown, joined, Spotted, Keeps}
use Rattle.search.specs.declared.slots.Step.{Step}
use Rattle.search.specs.declared.slots.Origin.TheVariants.{From}
use Rattle.search.proofs.Writing.{run_kept, origin_kept}
use Rattle.search.proofs.Noting.{looked_up}
use Rattle.search.proofs.Rising.{rising_inserted}
use Rattle.search.proofs.Unknown.{unknown_in, unknown_out}
use Rattle.search.proofs.Sorting.{line_goes}

named_insert : {t : Term} {from : ℕ} {res : List ℕ} {n : ℕ} {ks : List ℕ} {ys : List Line} (p k : ℕ) (x : Line) → k < n → Result t from res k x → Named t from res n ks ys
    → Named t from res n (take p ks ++ (k ∷ drop p ks)) (take p ys ++ (x ∷ drop p ys))
named_insert ℕ.zero k x h s N = more h s N
named_insert (suc p) k x h s none = more h s none
named_insert (suc p) k x h s (more b r N) = more b r (named_insert p k x h s N)

-- the slots before a new one keep what they have
module _ {t : Term} {from : ℕ} {res : List ℕ} {n : ℕ} (res' : List ℕ) (m : ℕ) (h : n ≤ m) (e : take (SLOT * n) res' ≡ take (SLOT * n) res) where
  result_kept : (k : ℕ) (x : Line) → k < n → Result t from res k x → Result t from res' k x
  result_kept k x b s =
      record {
        run = run_kept res res' n e k x.result b s.run;
        step = s.step;
        origin = origin_kept res res' n e k b ∙ s.origin;
        parent = s.parent;
        marks = s.marks;
      }

  named_kept : {ks : List ℕ} {ys : List Line} → Named t from res n ks ys → Named t from res' m ks ys
  named_kept none = none
  named_kept (more {k} {x = x} b s N) = more {k = k} (omega arith) (result_kept k x b s) (named_kept N)

module _ (ws : List ℕ) (noted : ℕ) (xs : List ℕ) (s : Step) (res order : List ℕ) (count : ℕ) (b : Bool) (F : Finds ws noted xs b) where
  pub keeps_known : b ≡ true → Keeps ws noted xs s res order res order count count
  unfolding unknown
  keeps_known e =
      record { low = omega arith; high = omega arith; sorts = λ ns t ys x W c h m O. rw (unknown_out ns x [] (looked_up F W c h ∙ e)) O }

  module _ (new : b ≡ false) (r : Option ℕ) (S : Spotted res (take count order) xs r) where
    one_more : (ns : List Noted) (ys : List Line) (x : Line) → Slots ws ns → length ns ≡ noted → IsRun xs x.result → joined ns ys (x ∷ []) ≡ inserted x ys
    unfolding unknown
    one_more ns ys x W c h = ap (insert_all lost by_result ys) (unknown_in ns x [] (looked_up F W c h ∙ new))

    pub keeps_already : r ≡ None → Keeps ws noted xs s res order res order count count
    keeps_already e =
        record {
          low = omega arith;
          high = omega arith;
          sorts = λ ns t ys x W c h m O. rw (one_more ns ys x W c h) (rw (rw e at (line_goes S O x h)) O);
        }

    -- ks are the numbers of the slots with that of the new one put in at p
    module _ (p : ℕ) (e : r ≡ Some p) (room : count < length order) (res' ks : List ℕ) (W : Writes res res' count xs (From s) 0)
        (d : ks ≡ put_in p count (take (count + 1) order)) (l : length ks ≡ length (take (count + 1) order)) where
      put : ks ≡ take p (take count order) ++ (count ∷ drop p (take count order))
      put =
          let f : take (count + 1) order ≡ take count order ++ (get_or order count 0 ∷ []) = rw add-one (take-suc order count 0 room) in
          d ∙ ap (put_in p count) f ∙ put_in_room count (take count order) (get_or order count 0) p (rw e at S).within

      named : take (count + 1) (ks ++ drop (count + 1) order) ≡ take p (take count order) ++ (count ∷ drop p (take count order))
      named = take_at ks (drop (count + 1) order) (count + 1) (l ∙ length-take-le (count + 1) order (omega arith)) ∙ put

      pub keeps_more : Keeps ws noted xs s res order res' (ks ++ drop (count + 1) order) count (count + 1)
      keeps_more =
          record {
            low = omega arith;
            high = omega arith;
            sorts = λ ns t ys x K c h m O.
                rw (one_more ns ys x K c h)
                (record {
                  named = rw ((rw e at (line_goes S O x h)).1, named)
                      (named_insert p count x (omega arith)
                      (record { run = W.run x.result h; step = s; origin = W.origin; parent = refl; marks = m })
                      (named_kept res' (count + 1) (omega arith) W.kept O.named));
                  rising = rising_inserted x ys O.rising;
                });
          }
