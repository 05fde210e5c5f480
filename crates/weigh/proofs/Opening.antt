-- An opened term while its lines are taken: it stays in its slot, and no opened term is heavier.
use Rattle.std.specs.Prelude.{ℕ, ◌+◌, Bool, true, false, leb, List, [], ◌∷◌}
use Rattle.std.proofs.Common.{arith, sym, ◌∙◌, ap, ⊎_elim}
use Rattle.std.proofs.lemmas.Bool.{false≢true}
use Rattle.search.specs.Line.{Line}
use Rattle.weigh.specs.Weigh.{Weights, Weighed, led, note, note_lines}
use Rattle.weigh.specs.Opened.{Opened}
use Rattle.weigh.specs.Theory.Noting.{note_made, note_distinct}
use Rattle.weigh.specs.Theory.Steps.{note_length_cases}
use Rattle.weigh.proofs.Naming.{note_keeps_at}

module _ (w : Weights) (x : Weighed) (i : ℕ) where
  -- a line on the opened term is noted
  pub opened_after : (y : Line) (es : List Weighed) → Opened es i x → Opened (note (led w x y) es) i x
  opened_after y es O =
      record {
        within = omega (arith, O.within, note_length_cases (led w x y) es);
        is = note_keeps_at w x y es i x O.within O.is (omega arith);
        opened = O.opened;
        heaviest = λ a m o.
            ⊎_elim (λ e. absurd (false≢true (sym (ap (λ z. z.opened) e) ∙ o))) (λ j. O.heaviest a j o) (note_made (led w x y) es a m);
        distinct = note_distinct (led w x y) es O.distinct;
      }

  -- lines are noted, those over cost are not
  pub opened_lines : (cost : ℕ) (ys : List Line) (es : List Weighed) → Opened es i x → Opened (note_lines w cost x ys es) i x
  unfolding note_lines
  opened_lines cost [] es O = O
  opened_lines cost (y ∷ ys) es O =
      go (leb (x.total + w y.law) cost) (opened_lines cost ys es O) (opened_lines cost ys (note (led w x y) es) (opened_after y es O))
    where
      go : (b : Bool) → Opened (note_lines w cost x ys es) i x → Opened (note_lines w cost x ys (note (led w x y) es)) i x
          → Opened (elim b [ true ↦ note_lines w cost x ys (note (led w x y) es) | false ↦ note_lines w cost x ys es ]) i x
      go true p q = q
      go false p q = p
