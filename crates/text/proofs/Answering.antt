-- What the functions that put a path go by: letters, paths, and the line of a direct match.
use Prim.Native.Nat.{ℕ, ◌≤◌}
use native.Mathlib.Omega.{arith}
use mathlib.Core.Path.{◌≡◌, refl, sym, ap, subst, ◌∙◌}
use mathlib.Core.List.{List, [], ◌∷◌, ◌++◌}
use lib.ListN.{length, take}
use Rattle.terms.specs.Term.{Term, letter, zero, one, add, mul, size}
use Rattle.terms.specs.Held.{IsRun}
use Rattle.terms.specs.Letters.{letters, rising}
use Rattle.terms.specs.Promises.{Fills, Lists}
use Rattle.std.specs.Prelude.{Option}
use Rattle.std.specs.Prelude.{Some, None}
use Rattle.std.proofs.lemmas.Option.{same_Some, none-some}
use Rattle.terms.specs.Theory.Letters.{letters_few}
use Rattle.terms.proofs.Gathered.{fills_front}
use Rattle.terms.proofs.Held.{size_pos}
use Rattle.search.specs.Line.{Line}
use Rattle.search.specs.Search.{Noted, entry, whole_line}
use Rattle.search.specs.Coded.{name_of}
use Rattle.search.specs.Place.{place_at}
use Rattle.search.specs.Slots.{noted_at, Starts, Notes}
use Rattle.search.specs.Traced.{Traced, Traces}
use Rattle.search.specs.declared.search.Law.{Law}
use Rattle.search.specs.declared.search.Direction.TheVariants.{Forward}
use Rattle.text.specs.Walk.{Walk}
use Rattle.text.specs.Answering.{Led}

-- the letters of two terms of at most 31 nodes fill the front of 32 numbers
module _ {left right names names' : List ℕ} {l : Option ℕ} {s t : Term} (left_run : IsRun left s) (right_run : IsRun right t) (small_s : size s ≤ 31) (small_t : size t ≤ 31)
    (L : Lists left right names l names') where
  filled : Fills (rising (letters s ++ letters t)) names l names'
  filled = L.terms s t left_run right_run

  pub letters_fit : length names ≡ 32 → l ≡ None → ⊥
  letters_fit room e =
      let f : Fills (rising (letters s ++ letters t)) names None names' = rw e at filled in
      omega (arith, f.0, letters_few s t small_s small_t)

  pub letters_listed : {n : ℕ} → l ≡ Some n → take n names' ≡ rising (letters s ++ letters t)
  letters_listed {n} e =
      let f : Fills (rising (letters s ++ letters t)) names (Some n) names' = rw e at filled in
      fills_front (rising (letters s ++ letters t)) names names' f

-- a path for whose slots there is room, read back from the slots
module _ {ws path : List ℕ} {last : ℕ} {r : Option ℕ} {s : Term} {xs : List Line} (T : Traces ws last path r) (led : Led ws s last xs) (fits : length xs ≤ length path) where
  abbrev trail : List Line
  trail = (noted_at led.noted last).trail

  read : (r ≡ Some (length trail)) × Traced ws led.noted 0 (take (length trail) path) trail
  read = T.exact led.noted led.slots led.within (omega (arith, ap length led.trail))

  pub path_there : r ≡ None → ⊥
  path_there e = none-some (length trail) (sym e ∙ read.0)

  pub path_walk : {n : ℕ} → r ≡ Some n → Walk ws (take n path) s xs
  path_walk {n} e =
      let all : length trail ≡ n = same_Some (length trail) n (sym read.0 ∙ e) in
      record {
        noted = led.noted;
        slots = led.slots;
        start = led.start;
        lines =
            subst (λ ys. Traced ws led.noted 0 (take n path) ys) led.trail
            (subst (λ m. Traced ws led.noted 0 (take m path) trail) all read.1);
      }

-- number 0 is the root
root : (t : Term) → [] ≡ place_at t 0
unfolding place_at
root (letter n) = refl
root zero = refl
root one = refl
root (add s t) = refl
root (mul s t) = refl

-- the line of a law that matches the whole equation, noted in slot 1
pub whole_led : {a b left right : List ℕ} (w : Law) {s t : Term} → Starts a left
    → Notes a b 1 right (record { law = w; direction = Forward; place = 0; parent = 0 }) 1 → IsRun left s → IsRun right t
    → Led b s 1 (whole_line (name_of w) t ∷ [])
whole_led w {s} {t} S N left right =
    let start : Noted = record { term = s; trail = [] } in
    let line : Line = whole_line (name_of w) t in
    record {
      noted = start ∷ entry [] line ∷ [];
      slots =
          N.slots (start ∷ []) line (S.slots s left) refl (omega arith)
          (record { law = refl; direction = refl; inside = size_pos s; place = root s })
          right refl;
      start = refl;
      within = omega arith;
      trail = refl;
    }
