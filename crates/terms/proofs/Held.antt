-- A run that starts at a position of a list: where its parts start, and that it spells one term only.
use Prim.Native.Nat.{ℕ, ◌+◌, ◌-◌, ◌<◌, ◌≤◌}
use native.Mathlib.Omega.{arith}
use mathlib.Core.Path.{◌≡◌, refl, sym, ap, ◌∙◌}
use mathlib.Core.List.{List, [], ◌∷◌, ◌++◌, append_assoc, append-nil}
use mathlib.Core.Option.{some}
use lib.ListN.{length, take, drop, get_or, length-append, length-drop, take-append-drop}
use lib.Seq.{take_at, take-take}
use Rattle.std.proofs.lemmas.List.{drop-take}
use Rattle.terms.specs.Term.{Term, letter, zero, one, add, mul, size}
use Rattle.terms.specs.Run.{ADD, MUL, run}
use Rattle.terms.specs.Held.{Fine, IsRun, Holds}
use Rattle.terms.specs.Theory.Held.{length_run}
use Rattle.terms.specs.Theory.ReadRun.{run_read}
use Rattle.terms.proofs.Positions.{drop_head, drop_past}

pub size_pos : (t : Term) → 0 < size t
unfolding size
size_pos (letter n) = omega arith
size_pos zero = omega arith
size_pos one = omega arith
size_pos (add s t) = omega arith
size_pos (mul s t) = omega arith

pub holds_whole : {xs : List ℕ} {t : Term} → IsRun xs t → Holds xs 0 t
holds_whole {t = t} h = record { fine = h.fine; rest = []; here = h.whole ∙ sym (append-nil (run t)) }

pub holds_within : {xs : List ℕ} {i : ℕ} {t : Term} → Holds xs i t → i + size t ≤ length xs
holds_within {xs} {i} {t} h =
    let e : length xs - i ≡ size t + length h.rest = sym (length-drop i xs) ∙ ap length h.here ∙ length-append (run t) h.rest ∙ ap (λ n. n + length h.rest) (length_run t) in
    omega (arith, size_pos t)

-- the part of a list that a held run takes
pub held_part : {xs : List ℕ} {i : ℕ} {t : Term} (n : ℕ) → Holds xs i t → n ≡ size t → IsRun (take n (drop i xs)) t
held_part {xs} {i} {t} n h e = record { fine = h.fine; whole = rw h.here (take_at (run t) h.rest n (length_run t ∙ sym e)) }

pub run_one : {xs : List ℕ} {s t : Term} → IsRun xs s → IsRun xs t → s ≡ t
run_one {s = s} {t = t} p q = let e : some s ≡ some t = sym (run_read p) ∙ run_read q in cc

-- where the parts of a sum or product start

two_held : (xs : List ℕ) (i x : ℕ) (u v : Term) (ys : List ℕ) → Fine u → Fine v → drop i xs ≡ x ∷ run u ++ run v ++ ys
    → (get_or xs i 0 ≡ x) × Holds xs (i + 1) u × Holds xs (i + 1 + size u) v
two_held xs i x u v ys fu fv e =
    let p = drop_head xs i x (run u ++ run v ++ ys) e in
    let q : drop (i + 1) xs ≡ run u ++ (run v ++ ys) = p.2 ∙ append_assoc (run u) (run v) ys in (
      p.1,
      record { fine = fu; rest = run v ++ ys; here = q },
      record { fine = fv; rest = ys; here = rw (← (length_run u)) (drop_past xs (run u) (run v ++ ys) (i + 1) q) },
    )

pub holds_add : {xs : List ℕ} {i : ℕ} {u v : Term} → Holds xs i (add u v) → (get_or xs i 0 ≡ ADD) × Holds xs (i + 1) u × Holds xs (i + 1 + size u) v
unfolding run Fine
holds_add {xs} {i} {u} {v} h = two_held xs i ADD u v h.rest h.fine.0 h.fine.1 h.here

pub holds_mul : {xs : List ℕ} {i : ℕ} {u v : Term} → Holds xs i (mul u v) → (get_or xs i 0 ≡ MUL) × Holds xs (i + 1) u × Holds xs (i + 1 + size u) v
unfolding run Fine
holds_mul {xs} {i} {u} {v} h = two_held xs i MUL u v h.rest h.fine.0 h.fine.1 h.here

-- a run that stands in the front of a list stands there whatever follows

pub holds_part : {xs : List ℕ} {i : ℕ} {t : Term} → Fine t → take (size t) (drop i xs) ≡ run t → Holds xs i t
holds_part {xs} {i} {t} f e =
    record { fine = f; rest = drop (size t) (drop i xs); here = sym (take-append-drop (size t) (drop i xs)) ∙ ap (λ l. l ++ drop (size t) (drop i xs)) e }

pub front_holds : (xs ys : List ℕ) (n : ℕ) {i : ℕ} {t : Term} → take n ys ≡ take n xs → i + size t ≤ n → Holds xs i t → Holds ys i t
front_holds xs ys n {i} {t} e h p =
    holds_part p.fine
    (sym (drop-take i (size t) ys)
    ∙ ap (drop i) (sym (take-take (i + size t) n ys h) ∙ ap (take (i + size t)) e ∙ take-take (i + size t) n xs h)
    ∙ drop-take i (size t) xs
    ∙ (held_part (size t) p refl).whole)
