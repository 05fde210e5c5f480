-- WEIGH's noted terms in the slots of a workspace: the start, a term marked as opened, one more noted, and one lowered.
use Rattle.std.specs.Prelude.{ℕ, ◌+◌, ◌≤◌, ◌<◌, ◌≡◌, ◌⊎◌, List, [], ◌∷◌, ◌++◌, length, set, Some, None}
use native.Mathlib.Nat.{eq-or-lt_of_le, le_of_suc-le-suc}
use mathlib.Core.List.{map-append}
use lib.ListN.{length-append, length-map, length-set, get_or-append, get_or-map}
use lib.Seq.{get_or_at, get_or-set_same, get_or-set_other, map-set_same}
use Rattle.std.proofs.Common.{arith, sym, ◌∙◌, ap, inl, inr, ⊎_elim}
use Rattle.std.proofs.Math.Path.{refl, subst}
use Rattle.terms.specs.Lists.{◌∈◌, in-cast, in_map}
use Rattle.terms.specs.Term.{Term, zero}
use Rattle.terms.specs.Held.{IsRun}
use Rattle.terms.specs.Theory.Members.{getD_in}
use Rattle.search.specs.Line.{Line}
use Rattle.search.specs.Runs.{origin_of, value_of, term_at, Runs, Seeks, Rewrites, Enters}
use Rattle.search.specs.Slots as find
use Rattle.search.specs.declared.slots.Step.{Step}
use Rattle.search.specs.declared.slots.Origin.{Origin}
use Rattle.search.specs.declared.slots.Origin.TheVariants.{Start, From}
use Rattle.search.proofs.Writing.{origin_stays, value_stays}
use Rattle.search.proofs.Indexing.{equal?, long, entered, origin_new, value_new, origin_still, value_still, rewritten}
use Rattle.weigh.specs.Weigh.{Weights, Weighed, terms, start, led, note, mark}
use Rattle.weigh.specs.Slots.{weighed_at, Leads, Comes, WeighSlots}
use Rattle.weigh.specs.Opened.{Opened, NotesTotal}
use Rattle.weigh.specs.Theory.Noting.{opened, same_entry, mark_terms}
use Rattle.weigh.specs.Theory.Steps.{note_stays, note_new_length, note_lowers, mark_at, mark_length}
use Rattle.weigh.specs.Theory.Parents.{leads_note, leads_mark}
use Rattle.weigh.proofs.Opening.{opened_after}

-- FIND's start is WEIGH's
pub start_slots : (ws : List ℕ) (t : Term) → find.Slots ws (record { term = t; trail = [] } ∷ []) → WeighSlots ws (start t ∷ [])
start_slots ws t S =
    record {
      runs = S.runs;
      origin = λ k h. let e : k ≡ 0 = omega arith in rw e (comes (origin_of ws 0) (S.origin 0 (omega arith)));
      total = λ k h. let e : k ≡ 0 = omega arith in rw e (S.distance 0 (omega arith));
    }
  where
    comes : (o : Origin) → find.Comes o (record { term = t; trail = [] } ∷ []) 0 (record { term = t; trail = [] }) → Comes o (start t ∷ []) 0 (start t)
    comes Start c = c
    comes (From s) c = absurd (omega (arith, c.before))

-- what a term comes from does not speak of its being opened
comes_opened : (o : Origin) (es : List Weighed) (k : ℕ) (x : Weighed) → Comes o es k x → Comes o es k (opened x)
comes_opened Start es k x c = c
comes_opened (From s) es k x c =
    record {
      within = c.within;
      opened = c.opened;
      line = c.line;
      marks = c.marks;
      result = c.result;
      trail = c.trail;
    }

comes_mark : (t : Term) (o : Origin) (es : List Weighed) (k : ℕ) (x : Weighed) → Comes o es k x → Comes o (mark t es) k x
comes_mark t Start es k x c = c
comes_mark t (From s) es k x c = leads_mark t es s x c

-- a term is marked as opened: nothing in the slots speaks of it
pub mark_slots : (t : Term) {ws : List ℕ} {es : List Weighed} → WeighSlots ws es → WeighSlots ws (mark t es)
mark_slots t {ws} {es} S =
    record {
      runs = subst (Runs ws) (sym (mark_terms t es)) S.runs;
      origin = λ k h. origin k (within k h);
      total = λ k h. total k (within k h);
    }
  where
    within : (k : ℕ) → k < length (mark t es) → k < length es
    within k h = omega (arith, mark_length t es)

    origin : (k : ℕ) → k < length es → Comes (origin_of ws k) (mark t es) k (weighed_at (mark t es) k)
    origin k h =
        ⊎_elim
        (λ e. rw e (comes_mark t (origin_of ws k) es k (weighed_at es k) (S.origin k h)))
        (λ (e, same). rw e (comes_mark t (origin_of ws k) es k (opened (weighed_at es k)) (comes_opened (origin_of ws k) es k (weighed_at es k) (S.origin k h))))
        (mark_at t es k (start zero) h)

    total : (k : ℕ) → k < length es → value_of ws k ≡ (weighed_at (mark t es) k).total
    total k h = ⊎_elim (λ e. rw e (S.total k h)) (λ (e, same). rw e (S.total k h)) (mark_at t es k (start zero) h)

-- the terms noted, by number
pub counted : (es : List Weighed) → length (terms es) ≡ length es
counted es = length-map es (λ x. x.term)

pub weighed_term : (es : List Weighed) (k : ℕ) → term_at (terms es) k ≡ (weighed_at es k).term
weighed_term es k = get_or-map (λ x. x.term) es k (start zero)

-- a line on the opened term is noted
module _ {ws : List ℕ} {es : List Weighed} {s : Step} {x : Weighed} (w : Weights) (y : Line) (S : WeighSlots ws es) (O : Opened es s.parent x) (m : find.Marks s x.term y) where
  abbrev n : Weighed
  n = led w x y

  abbrev after : List Weighed
  after = note n es

  -- what a term came from, it comes from
  comes_note : (o : Origin) (k : ℕ) (z : Weighed) → Comes o es k z → Comes o after k z
  comes_note Start k z c = c
  comes_note (From s') k z c = leads_note n es (λ a i o. let h = O.heaviest a i o in omega arith) s' z c

  -- and the line leads to its own
  leads_new : Leads s after n
  leads_new =
      let A = opened_after w x s.parent y es O in
      record {
        within = A.within;
        opened = rw A.is A.opened;
        line = y;
        marks = rw A.is m;
        result = refl;
        trail = rw A.is refl;
      }

  module _ (ws' : List ℕ) where
    -- slot k has what it had, or the line's
    abbrev Same : ℕ → Type 0
    Same k = (k < length es) × (weighed_at after k ≡ weighed_at es k) × (origin_of ws' k ≡ origin_of ws k) × (value_of ws' k ≡ value_of ws k)

    abbrev New : ℕ → Type 0
    New k = (weighed_at after k ≡ n) × (origin_of ws' k ≡ From s) × (value_of ws' k ≡ n.total)

    noted : Runs ws' (terms after) → ((k : ℕ) → k < length after → Same k ⊎ New k) → WeighSlots ws' after
    noted R each =
        record {
          runs = R;
          origin = λ k h.
              ⊎_elim
              (λ (within, e, o, v). rw (e, o) (comes_note (origin_of ws k) k (weighed_at es k) (S.origin k within)))
              (λ (e, o, v). rw (e, o) leads_new)
              (each k h);
          total = λ k h. ⊎_elim (λ (within, e, o, v). rw e (v ∙ S.total k within)) (λ (e, o, v). rw e v) (each k h);
        }

  -- its result is not noted: it is one more
  module _ (new : y.result ∈ terms es → ⊥) where
    one_more : after ≡ es ++ (n ∷ [])
    one_more = note_new_length n es (λ z i e. new (in-cast (sym e) (in_map (λ (a : Weighed). a.term) i)))

    pub one_more_length : length after ≡ length es + 1
    one_more_length = ap length one_more ∙ length-append es (n ∷ [])

    pub noted_new : {ws' xs : List ℕ} → Enters ws ws' (length es) xs (From s) n.total → IsRun xs y.result → WeighSlots ws' after
    noted_new {ws'} {xs} E r = noted ws' (subst (λ l. Runs ws' (terms l)) (sym one_more) runs) each
      where
        runs : Runs ws' (terms (es ++ (n ∷ [])))
        runs =
            subst (Runs ws') (sym (map-append (λ z. z.term) es (n ∷ [])))
            (entered (terms es) y.result (subst (λ k. Enters ws ws' k xs (From s) n.total) (sym (counted es)) E) S.runs r)

        go : (k : ℕ) → (k ≡ length es) ⊎ (k < length es) → Same ws' k ⊎ New ws' k
        go k (inl e) = inr (rw (one_more, e) (get_or_at es n [] (start zero) (length es) refl), rw e (origin_new E), rw e (value_new E))
        go k (inr h) = inl (h, rw one_more (get_or-append es (n ∷ []) (start zero) k h), origin_still E k h, value_still E k h)

        each : (k : ℕ) → k < length after → Same ws' k ⊎ New ws' k
        each k h = go k (eq-or-lt_of_le (le_of_suc-le-suc (omega (arith, one_more_length))))

  -- its result is noted in slot i
  module _ (i : ℕ) (h : i < length es) (e : (weighed_at es i).term ≡ y.result) where
    -- with no greater total: it stays so
    pub as_light : (weighed_at es i).total ≤ n.total → after ≡ es
    as_light low = note_stays n es (weighed_at es i, getD_in (start zero) es i h, e, low) (λ a b p q. same_entry es O.distinct a b p q)

    -- with a greater one, which is lowered
    module _ (high : n.total < (weighed_at es i).total) where
      lowered : after ≡ set es i n
      lowered = note_lowers n es i (start zero) h O.distinct (sym e) high

      pub lowered_length : length after ≡ length es
      lowered_length = ap length lowered ∙ length-set es i n

      pub noted_lower : {ws' : List ℕ} → Rewrites ws ws' i (From s) n.total → WeighSlots ws' after
      noted_lower {ws'} W = noted ws' runs each
        where
          runs : Runs ws' (terms after)
          runs =
              subst (Runs ws') (sym (ap terms lowered ∙ map-set_same (λ (z : Weighed). z.term) es i n (start zero) (sym e))) (rewritten W (terms es) S.runs)

          each : (k : ℕ) → k < length after → Same ws' k ⊎ New ws' k
          each k p = go k (omega (arith, lowered_length)) (equal? k i)
            where
              go : (k : ℕ) → k < length es → (k ≡ i) ⊎ (k ≡ i → ⊥) → Same ws' k ⊎ New ws' k
              go k p (inl q) = inr (rw (lowered, q) (get_or-set_same es i n (start zero) h), rw q W.origin, rw q W.value)
              go k p (inr q) = inl (p, rw lowered (get_or-set_other es i k n (start zero) q), origin_stays W k q, value_stays W k q)

-- what `note_total` promises, by what the look-up found

pub total_full : {ws xs : List ℕ} {count slots : ℕ} {s : Step} {total : ℕ} → Seeks ws count xs None → slots ≤ count → NotesTotal ws count slots xs s total None ws
total_full F h =
    record {
      fits = tt;
      size = refl;
      exact = λ es x w y S c O m r e. omega (arith, one_more_length w y S O m (F.exact (terms es) y.result S.runs (counted es ∙ c) r));
    }

pub total_new : {ws ws' xs : List ℕ} {count slots : ℕ} {s : Step} {total : ℕ} → Seeks ws count xs None → count < slots
    → Enters ws ws' count xs (From s) total → NotesTotal ws count slots xs s total (Some (count + 1)) ws'
total_new {ws} {ws'} {xs} {count} {slots} {s} {total} F h E =
    record {
      fits = omega arith;
      size = long E;
      exact = λ es x w y S c O m r e.
          let new = F.exact (terms es) y.result S.runs (counted es ∙ c) r in
          (noted_new w y S O m new (rw (c, ← e) E) r, rw (← c) (one_more_length w y S O m new));
    }

module _ {ws xs : List ℕ} {count slots : ℕ} {s : Step} {total k : ℕ} (F : Seeks ws count xs (Some k)) (h : count ≤ slots) where
  pub total_still : value_of ws k ≤ total → NotesTotal ws count slots xs s total (Some count) ws
  total_still low =
      record {
        fits = h;
        size = refl;
        exact = λ es x w y S c O m r e.
            let i : k < length es = omega (arith, F.within) in
            let f = sym (weighed_term es k) ∙ F.exact (terms es) y.result S.runs (counted es ∙ c) r in
            let q = as_light w y S O m k i f (omega (arith, S.total k i)) in
            rw q (S, c);
      }

  pub total_lower : {ws' : List ℕ} → total < value_of ws k → Rewrites ws ws' k (From s) total → NotesTotal ws count slots xs s total (Some count) ws'
  total_lower {ws'} high W =
      record {
        fits = h;
        size = W.size;
        exact = λ es x w y S c O m r e.
            let i : k < length es = omega (arith, F.within) in
            let f = sym (weighed_term es k) ∙ F.exact (terms es) y.result S.runs (counted es ∙ c) r in
            let g : x.total + w y.law < (weighed_at es k).total = omega (arith, S.total k i) in
            (noted_lower w y S O m k i f g (rw (← e) W), lowered_length w y S O m k i f g ∙ c);
      }
