-- The texts of laws, directions, places and lines, put piece by piece.
use Prim.Native.Nat.{ℕ, zero, suc, ◌-◌, ◌<◌}
use Prim.Native.Char.{code}
use native.Mathlib.Omega.{arith}
use mathlib.Core.Path.{◌≡◌, refl, sym, ap, subst, ◌∙◌}
use mathlib.Core.Bool.{Bool, true, false, cond}
use mathlib.Core.List.{List, [], ◌∷◌, ◌++◌, append_assoc}
use lib.Dec.{ltb}
use Rattle.terms.specs.Term as term
use Rattle.terms.specs.Term.{Term, size}
use Rattle.terms.specs.Held.{IsRun, Holds}
use Rattle.terms.proofs.Held.{holds_whole}
use Rattle.search.specs.Line.{Line, Side, l, r}
use Rattle.search.specs.Coded.{name_of, direction_of, side_of}
use Rattle.search.specs.Place.{place_at}
use Rattle.std.specs.Prelude.{Option as Answer, Some, None}
use Rattle.search.specs.Slots.{Marks}
use Rattle.search.specs.Traced.{Turned, Turns}
use Rattle.search.specs.declared.slots.Step.{Step}
use Rattle.search.specs.declared.chain.Side as declared
use Rattle.text.specs.Bytes.{ascii, parted}
use Rattle.text.specs.TermText.{write_term}
use Rattle.text.specs.StepText.{law_name, direction, sides, place, step_value}
use Rattle.text.specs.Writer.{Writes}
use Rattle.text.specs.declared.writer.Writer.{Writer}
use Rattle.text.proofs.Writing.{then, put_as, put_none}

-- ---- places

-- the sides from the term that starts at a position of the run to a place are put
abbrev PutsSides : (xs : List ℕ) (from at : ℕ) (o o₁ : Writer) → Type 0
PutsSides xs from at o o₁ = (t : Term) → Holds xs from t → at - from < size t → Writes (sides (place_at t (at - from))) o o₁

side_first : (d : Side) (p : List Side) → sides (d ∷ []) ++ sides p ≡ sides (d ∷ p)
unfolding sides ascii
side_first l p = refl
side_first r p = refl

module _ {xs : List ℕ} {from at : ℕ} {turn : Answer (declared.Side × ℕ)} (T : Turns xs from at turn) where
  pub sides_end : (o : Writer) → turn ≡ None → PutsSides xs from at o o
  unfolding sides
  sides_end o e t p q = put_as (ap sides (sym (subst (Turned xs from at t) e (T.exact t p q)))) (put_none o)

  module _ (d : declared.Side) (n : ℕ) (e : turn ≡ Some (d, n)) where
    pub sides_more : {o o₁ o₂ : Writer} → Writes (sides (side_of d ∷ [])) o o₁ → PutsSides xs n at o₁ o₂ → PutsSides xs from at o o₂
    sides_more p P t h q =
        let i = subst (Turned xs from at t) e (T.exact t h q) in
        put_as (side_first (side_of d) (place_at i.part (at - n)) ∙ ap sides (sym i.place)) (then p (P i.part i.held i.inside))

place_root : (t : Term) → place (place_at t 0) ≡ code "." ∷ []
unfolding place place_at ascii
place_root (term.letter n) = refl
place_root term.zero = refl
place_root term.one = refl
place_root (term.add u v) = refl
place_root (term.mul u v) = refl

some_sides : (b : Bool) (p q : List Side) → sides (cond b (l ∷ p) (r ∷ q)) ≡ place (cond b (l ∷ p) (r ∷ q))
unfolding place
some_sides true p q = refl
some_sides false p q = refl

place_below : (t : Term) (i : ℕ) → suc i < size t → sides (place_at t (suc i)) ≡ place (place_at t (suc i))
unfolding size place_at
place_below (term.letter n) i h = absurd (omega arith)
place_below term.zero i h = absurd (omega arith)
place_below term.one i h = absurd (omega arith)
place_below (term.add u v) i h = some_sides (ltb i (size u)) (place_at u i) (place_at v (i - size u))
place_below (term.mul u v) i h = some_sides (ltb i (size u)) (place_at u i) (place_at v (i - size u))

pub put_root : {o o₁ : Writer} (t : Term) (i : ℕ) → i ≡ 0 → Writes (code "." ∷ []) o o₁ → Writes (place (place_at t i)) o o₁
put_root t i e p = put_as (sym (ap (λ i. place (place_at t i)) e ∙ place_root t)) p

pub put_below : {o o₁ : Writer} {xs : List ℕ} (t : Term) (i : ℕ) → (i ≡ 0 → ⊥) → IsRun xs t → i < size t → PutsSides xs 0 i o o₁
    → Writes (place (place_at t i)) o o₁
put_below t zero f h k P = absurd (f refl)
put_below t (suc i) f h k P =
    let e : suc i - 0 ≡ suc i = omega arith in put_as (ap (λ j. sides (place_at t j)) e ∙ place_below t i k) (P t (holds_whole h) (omega arith))

-- ---- lines

value_parts : (a b c d : List ℕ) → a ++ ascii " " ++ b ++ ascii " at=" ++ c ++ ascii " to=" ++ d ≡ parted (code " ") (a ∷ b ∷ (ascii "at=" ++ c) ∷ (ascii "to=" ++ d) ∷ [])
unfolding ascii parted
value_parts a b c d = simp append_assoc

-- the text of a line from its parts
pub put_value : {o o₁ : Writer} (s : Step) (t : Term) (x : Line) → Marks s t x
    → Writes (law_name (name_of s.law) ++ ascii " " ++ direction (direction_of s.direction) ++ ascii " at=" ++ place (place_at t s.place) ++ ascii " to=" ++ write_term x.result) o o₁
    → Writes (step_value x) o o₁
unfolding step_value
put_value s t x m p = put_as (rw (← m.law, ← m.direction, ← m.place) (value_parts (law_name x.law) (direction x.direction) (place x.place) (write_term x.result))) p
