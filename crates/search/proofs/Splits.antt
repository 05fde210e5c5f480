-- The run around a subterm: what stands before and after it, and the run with another term put in.
use Prim.Native.Nat.{ℕ, suc, ◌+◌, ◌-◌, ◌<◌, ◌≤◌}
use native.Mathlib.Omega.{arith}
use native.Mathlib.Nat.{zero-add}
use mathlib.Core.Path.{◌≡◌, refl, sym, ap, ◌∙◌}
use mathlib.Core.Bool.{Bool, true, false, cond}
use mathlib.Core.List.{List, [], ◌∷◌, ◌++◌, append_assoc, append-nil}
use lib.Dec.{ltb}
use lib.ListN.{length, take, drop, length-append}
use lib.Seq.{take_at, drop-append_seam}
use borrow.Author.Tests.{ltb-true, ltb-false}
use Rattle.terms.specs.Term.{Term, letter, zero, one, add, mul, size}
use Rattle.terms.specs.Run.{ADD, MUL, run}
use Rattle.terms.specs.Held.{Fine, IsRun, Holds}
use Rattle.terms.specs.Theory.Held.{length_run}
use Rattle.terms.proofs.Positions.{drop_past}
use Rattle.terms.proofs.Held.{holds_whole}
use Rattle.search.specs.Place.{subterm_at, replace_at}

-- xs is the run of a term, w its subterm that starts at i, and f puts another term there
pub record Split (xs : List ℕ) (i : ℕ) (w : Term) (f : Term → Term) : Type 0 where
  pub before : List ℕ
  pub after : List ℕ
  pub count : length before ≡ i
  pub whole : xs ≡ before ++ (run w ++ after)
  pub replaced : (u : Term) → run (f u) ≡ before ++ (run u ++ after)

split_root : (t : Term) → Split (run t) 0 t (λ u. u)
split_root t = record { before = []; after = []; count = refl; whole = sym (append-nil (run t)); replaced = λ u. sym (append-nil (run u)) }

regroup_left : (a b c d : List ℕ) → a ++ (b ++ c) ++ d ≡ a ++ (b ++ (c ++ d))
regroup_left a b c d = simp append_assoc

split_left : (x : ℕ) (t : Term) {xs : List ℕ} {i : ℕ} {w : Term} {f : Term → Term} (g : Term → Term) → ((u : Term) → run (g u) ≡ x ∷ run (f u) ++ run t)
    → Split xs i w f → Split (x ∷ xs ++ run t) (suc i) w g
split_left x t {w = w} g e s =
    record {
      before = x ∷ s.before;
      after = s.after ++ run t;
      count = ap suc s.count;
      whole = rw s.whole (ap (λ k. x ∷ k) (regroup_left s.before (run w) s.after (run t)));
      replaced = λ u. rw (e u, s.replaced u) (ap (λ k. x ∷ k) (regroup_left s.before (run u) s.after (run t)));
    }

split_right : (x : ℕ) (a : Term) {xs : List ℕ} {i : ℕ} {w : Term} {f : Term → Term} (g : Term → Term) → ((u : Term) → run (g u) ≡ x ∷ run a ++ run (f u))
    → Split xs i w f → Split (x ∷ run a ++ xs) (suc (size a + i)) w g
split_right x a {w = w} g e s =
    record {
      before = x ∷ run a ++ s.before;
      after = s.after;
      count = omega (arith, length-append (run a) s.before, length_run a, s.count);
      whole = rw s.whole (ap (λ k. x ∷ k) (sym (append_assoc (run a) s.before (run w ++ s.after))));
      replaced = λ u. rw (e u, s.replaced u) (ap (λ k. x ∷ k) (sym (append_assoc (run a) s.before (run u ++ s.after))));
    }

split_cond : (c : Term → Term → Term) (x : ℕ) → ((u v : Term) → run (c u v) ≡ x ∷ run u ++ run v) → (s t : Term) (i : ℕ) → i < size s + size t
    → (b : Bool) → ltb i (size s) ≡ b → {w w' : Term} {f f' : Term → Term}
    → (i < size s → Split (run s) i w f) → (i - size s < size t → Split (run t) (i - size s) w' f')
    → Split (x ∷ run s ++ run t) (suc i) (cond b w w') (λ u. cond b (c (f u) t) (c s (f' u)))
split_cond c x e s t i h true q {f = f} L R = split_left x t (λ u. c (f u) t) (λ u. e (f u) t) (L (ltb-true i (size s) q))
split_cond c x e s t i h false q {w' = w'} {f' = f'} L R =
    let p = ltb-false i (size s) q in
    let k : suc (size s + (i - size s)) ≡ suc i = omega arith in
    rw k at (split_right x s (λ u. c s (f' u)) (λ u. e s (f' u)) (R (omega arith)))

pub split : (t : Term) (i : ℕ) → i < size t → Split (run t) i (subterm_at t i) (replace_at t i)
unfolding run size subterm_at replace_at
split (letter n) i h = let e : 0 ≡ i = omega arith in rw e at (split_root (letter n))
split zero i h = let e : 0 ≡ i = omega arith in rw e at (split_root zero)
split one i h = let e : 0 ≡ i = omega arith in rw e at (split_root one)
split (add s t) ℕ.zero h = split_root (add s t)
split (add s t) (suc i) h = split_cond add ADD (λ u v. refl) s t i (omega arith) (ltb i (size s)) refl (λ p. split s i p) (λ p. split t (i - size s) p)
split (mul s t) ℕ.zero h = split_root (mul s t)
split (mul s t) (suc i) h = split_cond mul MUL (λ u v. refl) s t i (omega arith) (ltb i (size s)) refl (λ p. split s i p) (λ p. split t (i - size s) p)

fine_cond : (b : Bool) (u v : Term) → Fine u → Fine v → Fine (cond b u v)
fine_cond true u v f g = f
fine_cond false u v f g = g

pub fine_at : (t : Term) (i : ℕ) → Fine t → Fine (subterm_at t i)
unfolding Fine subterm_at
fine_at (letter n) i f = f
fine_at zero i f = f
fine_at one i f = f
fine_at (add s t) ℕ.zero f = f
fine_at (add s t) (suc i) f = fine_cond (ltb i (size s)) (subterm_at s i) (subterm_at t (i - size s)) (fine_at s i f.0) (fine_at t (i - size s) f.1)
fine_at (mul s t) ℕ.zero f = f
fine_at (mul s t) (suc i) f = fine_cond (ltb i (size s)) (subterm_at s i) (subterm_at t (i - size s)) (fine_at s i f.0) (fine_at t (i - size s) f.1)

-- the run of a subterm is the part of the run from its number on
pub holds_at : {xs : List ℕ} {j : ℕ} {t : Term} (i : ℕ) → i < size t → Holds xs j t → Holds xs (j + i) (subterm_at t i)
holds_at {xs} {j} {t} i h p =
    let s = split t i h in
    let w : Term = subterm_at t i in
    let e : drop j xs ≡ s.before ++ (run w ++ (s.after ++ p.rest)) = p.here ∙ ap (λ k. k ++ p.rest) s.whole ∙ regroup_left s.before (run w) s.after p.rest in
    record { fine = fine_at t i p.fine; rest = s.after ++ p.rest; here = rw s.count at (drop_past xs s.before (run w ++ (s.after ++ p.rest)) j e) }

-- another term put there is a splice of runs
pub run_spliced : (t : Term) (i : ℕ) → i < size t → (u : Term)
    → run (replace_at t i u) ≡ take i (run t) ++ (run u ++ drop (i + size (subterm_at t i)) (run t))
run_spliced t i h u =
    let s = split t i h in
    let w : Term = subterm_at t i in
    let e₁ : take i (run t) ≡ s.before = ap (take i) s.whole ∙ take_at s.before (run w ++ s.after) i s.count in
    let e₂ : drop (i + size w) (run t) ≡ s.after =
    rw (s.count, length_run w) at (drop_past (run t) (run w) s.after (length s.before) (ap (drop (length s.before)) s.whole ∙ drop-append_seam s.before (run w ++ s.after))) in
    rw (e₁, e₂) (s.replaced u)

-- the subterm with a number starts there
pub starts : {xs : List ℕ} {t : Term} {at : ℕ} → IsRun xs t → at < size t → Holds xs at (subterm_at t at)
starts {at = at} ht h = rw (zero-add at) at (holds_at at h (holds_whole ht))

-- another term put in: its size, and that its letters are small
pub size_replaced : (t : Term) (i : ℕ) → i < size t → (u : Term) → (size (replace_at t i u) + size (subterm_at t i) ≡ size t + size u) × (i + size (subterm_at t i) ≤ size t)
size_replaced t i h u =
    let s = split t i h in
    let w : Term = subterm_at t i in
    let e₁ = length_run (replace_at t i u) in
    let e₂ = ap length (s.replaced u) ∙ length-append s.before (run u ++ s.after) in
    let e₃ = ap length s.whole ∙ length-append s.before (run w ++ s.after) in (
      omega (arith, e₁, e₂, e₃, s.count, length-append (run u) s.after, length-append (run w) s.after, length_run u, length_run w, length_run t),
      omega (arith, e₃, s.count, length-append (run w) s.after, length_run w, length_run t),
    )

pub fine_replaced : (t : Term) (i : ℕ) (u : Term) → Fine t → Fine u → Fine (replace_at t i u)
unfolding Fine replace_at
fine_replaced (letter n) i u f g = g
fine_replaced zero i u f g = g
fine_replaced one i u f g = g
fine_replaced (add s t) ℕ.zero u f g = g
fine_replaced (add s t) (suc i) u f g =
    fine_cond (ltb i (size s)) (add (replace_at s i u) t) (add s (replace_at t (i - size s) u)) (fine_replaced s i u f.0 g, f.1) (f.0, fine_replaced t (i - size s) u f.1 g)
fine_replaced (mul s t) ℕ.zero u f g = g
fine_replaced (mul s t) (suc i) u f g =
    fine_cond (ltb i (size s)) (mul (replace_at s i u) t) (mul s (replace_at t (i - size s) u)) (fine_replaced s i u f.0 g, f.1) (f.0, fine_replaced t (i - size s) u f.1 g)
