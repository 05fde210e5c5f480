-- Terms that are named by their slots, while another is opened.
use Rattle.std.specs.Prelude.{ℕ, ◌+◌, ◌≤◌, ◌<◌, ◌≡◌, Bool, true, false, leb, List, [], ◌∷◌, length}
use Rattle.std.proofs.Common.{arith, sym, ◌∙◌, ap, ⊎_elim}
use Rattle.std.proofs.Math.Path.{refl, subst}
use lib.ListN.{length-map, get_or-map}
use Rattle.std.proofs.lemmas.Bool.{false≢true}
use Rattle.terms.specs.Lists.{◌∈◌, here, there, in-cast, Distinct}
use Rattle.terms.specs.Term.{zero}
use Rattle.terms.specs.Theory.Members.{getD_in}
use Rattle.search.specs.Line.{Line}
use Rattle.search.specs.Runs.{Spells}
use Rattle.weigh.specs.Weigh.{Weights, Weighed, terms, start, led, note, note_lines, mark}
use Rattle.weigh.specs.Slots.{weighed_at, WeighSlots}
use Rattle.weigh.specs.Gathered.{SlotsOf, none, more}
use Rattle.weigh.specs.Theory.Noting.{opened, marks}
use Rattle.weigh.specs.Theory.Steps.{note_at, note_length_cases, note_lines_length, mark_at, mark_length}

-- the run of a term in its slot
pub weighed_run : {ws : List ℕ} {es : List Weighed} → WeighSlots ws es → (k : ℕ) → k < length es → Spells ws k (weighed_at es k).term
weighed_run {ws} {es} S k h = subst (Spells ws k) (get_or-map (λ x. x.term) es k (start zero)) (S.runs.spelled k (omega (arith, length-map es (λ x. x.term))))

-- what is no heavier than x stays in its place while a line on x is noted
pub note_keeps_at : (w : Weights) (x : Weighed) (y : Line) (es : List Weighed) (k : ℕ) (a : Weighed) → k < length es → weighed_at es k ≡ a → a.total ≤ x.total
    → weighed_at (note (led w x y) es) k ≡ a
note_keeps_at w x y es k a h e light =
    ⊎_elim (λ f. f ∙ e) (λ (f, same, lower). absurd (omega (arith, ap (λ z. z.total) e))) (note_at (led w x y) es k (start zero) h)

module _ (w : Weights) (cost : ℕ) (x : Weighed) where
  -- the lines on a term and on the same one opened are noted alike
  pub lines_opened : (ys : List Line) (es : List Weighed) → note_lines w cost (opened x) ys es ≡ note_lines w cost x ys es
  unfolding note_lines
  lines_opened [] es = refl
  lines_opened (y ∷ ys) es = go (leb (x.total + w y.law) cost) (lines_opened ys es) (lines_opened ys (note (led w x y) es))
    where
      go : (b : Bool) → note_lines w cost (opened x) ys es ≡ note_lines w cost x ys es
          → note_lines w cost (opened x) ys (note (led w x y) es) ≡ note_lines w cost x ys (note (led w x y) es)
          → ◌≡◌ {A = List Weighed} (elim b [ true ↦ note_lines w cost (opened x) ys (note (led w x y) es) | false ↦ note_lines w cost (opened x) ys es ])
          (elim b [ true ↦ note_lines w cost x ys (note (led w x y) es) | false ↦ note_lines w cost x ys es ])
      go true e f = f
      go false e f = e

  -- what is no heavier than x stays in its place while the lines on x are taken
  pub lines_keep : (ys : List Line) (es : List Weighed) (k : ℕ) (a : Weighed) → k < length es → weighed_at es k ≡ a → a.total ≤ x.total
      → weighed_at (note_lines w cost x ys es) k ≡ a
  unfolding note_lines
  lines_keep [] es k a h e light = e
  lines_keep (y ∷ ys) es k a h e light =
      go (leb (x.total + w y.law) cost) (lines_keep ys es k a h e light)
      (lines_keep ys (note (led w x y) es) k a (omega (arith, h, note_length_cases (led w x y) es)) (note_keeps_at w x y es k a h e light) light)
    where
      go : (b : Bool) → weighed_at (note_lines w cost x ys es) k ≡ a → weighed_at (note_lines w cost x ys (note (led w x y) es)) k ≡ a
          → weighed_at (elim b [ true ↦ note_lines w cost x ys (note (led w x y) es) | false ↦ note_lines w cost x ys es ]) k ≡ a
      go true p q = q
      go false p q = p

-- x is marked in its place
module _ (x : Weighed) (es : List Weighed) (k : ℕ) (h : k < length es) where
  pub marked_at : Distinct (terms es) → x.opened ≡ false → weighed_at es k ≡ x → weighed_at (mark x.term es) k ≡ opened x
  marked_at d o e =
      ⊎_elim (λ f. absurd (left (f ∙ e))) (λ (f, same). f ∙ ap opened e) (mark_at x.term es k (start zero) h)
    where
      left : weighed_at (mark x.term es) k ≡ x → ⊥
      left f =
          ⊎_elim
          (λ (i, other). other (ap (λ z. z.term) f))
          (λ g. false≢true (sym o ∙ ap (λ z. z.opened) (sym f ∙ g)))
          ((marks x es d (in-cast (sym e) (getD_in (start zero) es k h))).made (weighed_at (mark x.term es) k)
          (getD_in (start zero) (mark x.term es) k (omega (arith, h, mark_length x.term es))))

  -- and no other is
  pub unmarked_at : (a : Weighed) → weighed_at es k ≡ a → (a.term ≡ x.term → ⊥) → weighed_at (mark x.term es) k ≡ a
  unmarked_at a e other =
      ⊎_elim (λ f. f ∙ e) (λ (f, same). absurd (other (sym (same ∙ ap (λ z. z.term) e)))) (mark_at x.term es k (start zero) h)

-- slots go on to name the other terms when x is opened that is no lighter
pub names_stay : (w : Weights) (cost : ℕ) (x : Weighed) (ys : List Line) (es : List Weighed) {ks : List ℕ} {xs : List Weighed} → SlotsOf es ks xs
    → ((a : Weighed) → a ∈ xs → (a.total ≤ x.total) × (a.term ≡ x.term → ⊥)) → SlotsOf (note_lines w cost x ys (mark x.term es)) ks xs
names_stay w cost x ys es none others = none
names_stay w cost x ys es (more {k} {x = a} h e n) others =
    let (light, other) = others a (here refl) in
    more
    (omega (arith, h, mark_length x.term es, note_lines_length w cost x ys (mark x.term es)))
    (lines_keep w cost x ys (mark x.term es) k a (omega (arith, h, mark_length x.term es)) (unmarked_at x es k h a e other) light)
    (names_stay w cost x ys es n (λ b i. others b (there i)))
