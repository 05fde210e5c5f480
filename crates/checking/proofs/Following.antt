-- One step line judged on a term: what it says is what was read of it.
use Rattle.std.proofs.Common.{◌≡◌, ℕ, Bool, false, List, ◌++◌, length, take, drop, refl, sym, ap, ◌∙◌, Some, None}
use lib.Seq.{take_at, drop_at}
use Rattle.terms.specs.Term.{Term}
use Rattle.search.specs.Law.{semiring}
use Rattle.search.specs.Coded.{law_of, direction_of}
use Rattle.search.specs.Chain.{is_use, is_line}
use Rattle.search.specs.Used.{Uses}
use Rattle.search.proofs.Using.{line_by_law}
use Rattle.search.proofs.RunLine.{use_nowhere}
use Rattle.checking.specs.declared.line.Step.{Step}
use Rattle.checking.specs.Layout.{StepLayout, line_of}
use Rattle.checking.specs.LineRead.{Stands}
use Rattle.checking.specs.PlaceRead.{Locates}
use Rattle.checking.specs.Judged.{Follows}

-- the test of the line is that of the law
tested : (x : Step) (y : StepLayout) (t u : Term) → Stands x y → is_line semiring t (line_of y u) ≡ is_use (law_of x.law) (direction_of x.direction) y.place t u
tested x y t u h = rw (h.law, h.direction) (line_by_law x.law (direction_of x.direction) y.place t u)

module _ (x : Step) (before after : List ℕ) where
  pub no_place : Locates x.place.now before None → Follows x before after false
  no_place P =
      record {
        exact = λ t u y ht hu h.
            sym (tested x y t u h ∙ use_nowhere (law_of x.law) (direction_of x.direction) y.place ht hu (sym (P.exact t ht y.place h.place)));
      }

  -- the term behind the source in one list
  pub used : (both : List ℕ) (k : ℕ) {b : Bool} → both ≡ before ++ after → Locates x.place.now before (Some k)
      → Uses x.law x.direction both (length before) k b → Follows x before after b
  used both k e P U =
      record {
        exact = λ t u y ht hu h.
            let first : take (length before) both ≡ before = ap (take (length before)) e ∙ take_at before after (length before) refl in
            let second : drop (length before) both ≡ after = ap (drop (length before)) e ∙ drop_at before after (length before) refl in
            U.exact t u (rw first ht) (rw second hu) y.place (sym (P.exact t ht y.place h.place)) ∙ sym (tested x y t u h);
      }
