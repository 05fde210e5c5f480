-- The lines of an opened term, taken one after another: what is noted then, or more than there are slots.
use Rattle.std.specs.Prelude.{ℕ, suc, ◌+◌, ◌≤◌, ◌<◌, ◌≡◌, Bool, true, false, List, [], ◌∷◌, ◌++◌, length, take, Option, Some, None}
use Rattle.std.proofs.Common.{arith, refl, sym, ◌∙◌, ap, le-leb, ⊎_elim}
use Rattle.std.proofs.lemmas.Bool.{lt-leb}
use Rattle.terms.specs.Lists.{◌∈◌, here, there, only_one, Distinct}
use Rattle.terms.specs.Term.{Term}
use Rattle.terms.specs.Held.{IsRun}
use Rattle.terms.specs.Theory.Held.{size_of}
use Rattle.terms.specs.Theory.Order.{below?}
use Rattle.search.specs.Line.{Line, Limits, allowed}
use Rattle.search.specs.Coded.{name_of}
use Rattle.search.specs.Spliced.{Tries}
use Rattle.search.specs.Resulted.{tried_by, TooDeep}
use Rattle.search.specs.Theory.Results.{allowed_member}
use Rattle.search.specs.declared.slots.Step.{Step}
use Rattle.search.proofs.Resulting.{allowed_append, line_marks, by_nothing, by_too_deep, by_one}
use Rattle.search.proofs.Repeating.{Again, nothing, once}
use Rattle.weigh.specs.Weigh.{Weights, weights_of, Weighed, terms, led, note, note_lines}
use Rattle.weigh.specs.Opened.{Became, NotesTotal, TakesLines}
use Rattle.weigh.specs.Theory.Noting.{takes, note_distinct, same_entry}
use Rattle.weigh.specs.Theory.Steps.{note_again, note_lines_append, note_lines_length}
use Rattle.weigh.proofs.Opening.{opened_lines}

-- one line, and lines over cost

module _ (w : Weights) (cost : ℕ) (x : Weighed) where
  note_one : (y : Line) (es : List Weighed) → x.total + w y.law ≤ cost → note_lines w cost x (y ∷ []) es ≡ note (led w x y) es
  unfolding note_lines
  note_one y es h = rw (le-leb (x.total + w y.law) cost h, note_lines)

  note_heavy : (ys : List Line) (es : List Weighed) → ((y : Line) → y ∈ ys → cost < x.total + w y.law) → note_lines w cost x ys es ≡ es
  unfolding note_lines
  note_heavy [] es h = refl
  note_heavy (y ∷ ys) es h = rw (lt-leb (x.total + w y.law) cost (h y (here refl)), note_lines) (note_heavy ys es (λ z k. h z (there k)))

  -- a line with the law and the result of the one before it changes nothing
  note_twice : {fs bs : List Line} → Again fs bs → (es : List Weighed) → Distinct (terms es)
      → note_lines w cost x bs (note_lines w cost x fs es) ≡ note_lines w cost x fs es
  unfolding note_lines
  note_twice nothing es d = refl
  note_twice (once y z n e) es d =
      ⊎_elim
      (λ (h : x.total + w y.law < suc cost).
      rw (note_one y es (omega arith), note_one z (note (led w x y) es) (omega (arith, ap w n)))
      (note_again (led w x y) (led w x z) es e (omega (arith, ap w n)) (same_entry (note (led w x y) es) (note_distinct (led w x y) es d))))
      (λ h. rw (note_heavy (y ∷ []) es (λ a k. rw (only_one k) h), note_heavy (z ∷ []) es (λ a k. rw (only_one k, n) h)))
      (below? (x.total + w y.law) (suc cost))

  pub note_repeated : (xs fs bs : List Line) (es : List Weighed) → Distinct (terms es) → Again fs bs
      → note_lines w cost x ((xs ++ fs) ++ bs) es ≡ note_lines w cost x (xs ++ fs) es
  note_repeated xs fs bs es d a =
      rw (note_lines_append w cost x (xs ++ fs) bs es, note_lines_append w cost x xs fs es)
      (note_twice a (note_lines w cost x xs es) ((takes w cost x xs es).distinct d))

-- lines one after another

module _ {weights : List ℕ} {cost : ℕ} {ws : List ℕ} {count slots : ℕ} {xs : List ℕ} {room deep from total : ℕ} where
  pub takes_none : count ≤ slots → TakesLines weights cost ws count slots xs room deep from total (λ t. []) (Some count) ws
  unfolding allowed note_lines
  takes_none h = record { fits = h; size = refl; exact = λ es x m S c O i t s d. (S, c) }

  pub takes_then : {new new' : Term → List Line} {c : ℕ} {ws₁ : List ℕ} {r : Option ℕ} {ws₂ : List ℕ}
      → TakesLines weights cost ws count slots xs room deep from total new (Some c) ws₁ → TakesLines weights cost ws₁ c slots xs room deep from total new' r ws₂
      → TakesLines weights cost ws count slots xs room deep from total (λ t. new t ++ new' t) r ws₂
  takes_then {new} {new'} A B =
      record {
        fits = B.fits;
        size = B.size ∙ A.size;
        exact = λ es x m S c O i t s d.
            let w = weights_of weights in
            let ys = allowed m (new x.term) in
            let (S', c') = A.exact es x m S c O i t s d in
            rw (allowed_append m (new x.term) (new' x.term), note_lines_append w cost x ys (allowed m (new' x.term)) es)
            (B.exact (note_lines w cost x ys es) x m S' c' (opened_lines w x from cost ys es O) i t s d);
      }

  -- other lines that note the same
  pub takes_same : {new : Term → List Line} (new' : Term → List Line) {r : Option ℕ} {ws₁ : List ℕ}
      → ((es : List Weighed) (x : Weighed) (m : Limits) → Distinct (terms es) → IsRun xs x.term → x.total ≡ total
      → note_lines (weights_of weights) cost x (allowed m (new' x.term)) es ≡ note_lines (weights_of weights) cost x (allowed m (new x.term)) es)
      → TakesLines weights cost ws count slots xs room deep from total new r ws₁ → TakesLines weights cost ws count slots xs room deep from total new' r ws₁
  takes_same new' e A =
      record { fits = A.fits; size = A.size; exact = λ es x m S c O i t s d. rw (e es x m O.distinct i t) (A.exact es x m S c O i t s d) }

  -- the same lines, said another way
  pub takes_as : {new : Term → List Line} (new' : Term → List Line) {r : Option ℕ} {ws₁ : List ℕ} → ((t : Term) → IsRun xs t → new' t ≡ new t)
      → TakesLines weights cost ws count slots xs room deep from total new r ws₁ → TakesLines weights cost ws count slots xs room deep from total new' r ws₁
  takes_as new' e A = takes_same new' (λ es x m d i t. rw (e x.term i)) A

  -- where the slots do not do for some lines they do not do for more
  pub takes_full : {new : Term → List Line} (more : Term → List Line) {ws₁ : List ℕ} → TakesLines weights cost ws count slots xs room deep from total new None ws₁
      → TakesLines weights cost ws count slots xs room deep from total (λ t. new t ++ more t) None ws₁
  takes_full {new} more A =
      record {
        fits = A.fits;
        size = A.size;
        exact = λ es x m S c O i t s d.
            let w = weights_of weights in
            let ys = allowed m (new x.term) in
            let us = allowed m (more x.term) in
            rw (allowed_append m (new x.term) (more x.term), note_lines_append w cost x ys us es)
            (omega (arith, A.exact es x m S c O i t s d, note_lines_length w cost x us (note_lines w cost x ys es)));
      }

-- the line of a step

module _ {weights : List ℕ} {cost : ℕ} {ws : List ℕ} {count slots : ℕ} {xs : List ℕ} {room deep total : ℕ} (s : Step) (inside : s.place < length xs) where
  -- none is noted whose law is too heavy
  pub takes_heavy : count ≤ slots → cost < total + weights_of weights (name_of s.law) → TakesLines weights cost ws count slots xs room deep s.parent total (tried_by s) (Some count) ws
  unfolding allowed note_lines
  takes_heavy h k =
      takes_same (tried_by s)
      (λ es x m d i t.
      note_heavy (weights_of weights) cost x (allowed m (tried_by s x.term)) es
      (λ y n. let M = line_marks s x.term (omega (arith, size_of i)) y (allowed_member m (tried_by s x.term) n).0 in rw (M.law, t) k))
      (takes_none h)

module _ (weights : List ℕ) (cost : ℕ) (ws : List ℕ) (count slots : ℕ) (s : Step) (xs : List ℕ) (room deep total : ℕ) (out : List ℕ) (f : Option ℕ)
    (inside : s.place < length xs) (T : Tries s.law s.direction xs s.place room out f) where
  abbrev Takes : Option ℕ → List ℕ → Type 0
  Takes r ws' = TakesLines weights cost ws count slots xs room deep s.parent total (tried_by s) r ws'

  -- what becomes of the noted terms with the lines ys
  abbrev Notes : Option ℕ → List ℕ → List Weighed → Weighed → List Line → Type 0
  Notes r ws' es x ys = Became r slots ws' (note_lines (weights_of weights) cost x ys es)

  pub takes_nothing : count ≤ slots → f ≡ None → Takes (Some count) ws
  unfolding note_lines
  takes_nothing h q =
      record {
        fits = h;
        size = refl;
        exact = λ es x m S c O i t e d. by_nothing s xs room out f inside T x.term m i e (Notes (Some count) ws es x) q (S, c);
      }

  module _ (k : ℕ) (q : f ≡ Some k) (whole : length out ≡ room) (b : Bool) (D : TooDeep (take k out) deep b) where
    pub takes_too_deep : count ≤ slots → b ≡ true → Takes (Some count) ws
    unfolding note_lines
    takes_too_deep h r =
        record {
          fits = h;
          size = refl;
          exact = λ es x m S c O i t e d. by_too_deep s xs room out f inside T x.term m i e (Notes (Some count) ws es x) k q whole deep d b D r (S, c);
        }

    pub takes_noted : b ≡ false → (sum : ℕ) → sum ≡ total + weights_of weights (name_of s.law) → sum ≤ cost → (r : Option ℕ) (ws' : List ℕ)
        → NotesTotal ws count slots (take k out) s sum r ws' → Takes r ws'
    takes_noted g sum is low r ws' N =
        record {
          fits = N.fits;
          size = N.size;
          exact = λ es x m S c O i t e d.
              by_one s xs room out f inside T x.term m i e (Notes r ws' es x) k q whole deep d b D g
              (λ y H M.
              let w = weights_of weights in
              let p : sum ≡ x.total + w y.law = rw (M.law, t) is in
              rw (note_one w cost x y es (rw (sym p) low)) (N.exact es x w y S c O M H p));
        }
