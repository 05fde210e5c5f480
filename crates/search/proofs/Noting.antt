-- FIND's noted terms in the slots: what the slots say of terms, said of noted terms, and a slot noted as one more of them.
use Prim.Native.Nat.{ℕ, ◌+◌, ◌<◌, ◌≤◌}
use native.Mathlib.Omega.{arith}
use native.Mathlib.Nat.{eq-or-lt_of_le, le_of_suc-le-suc}
use mathlib.Core.Path.{◌≡◌, refl, sym, subst, ◌∙◌}
use mathlib.Core.Logic.{◌⊎◌, ◌↔◌, inl, inr}
use mathlib.Core.Bool.{Bool, true, false, false≢true}
use mathlib.Core.List.{List, [], ◌∷◌, ◌++◌, map-append}
use lib.ListN.{length, length-append, length-map, get_or-append, get_or-map}
use lib.Seq.{get_or_at}
use Rattle.terms.specs.Lists.{◌∈◌, in_map, of_map}
use Rattle.terms.specs.Term.{Term, zero}
use Rattle.terms.specs.Held.{IsRun}
use Rattle.search.specs.Line.{Line}
use Rattle.search.specs.Search.{Noted, terms, is_noted, entry}
use Rattle.search.specs.Runs.{Spells, origin_of, value_of, term_at, Runs, Finds, Enters}
use Rattle.search.specs.Theory.Grows.{Knows, is_noted_reflects}
use Rattle.search.specs.Slots.{Marks, noted_at, Comes, Slots, Starts, Notes}
use Rattle.search.specs.declared.slots.Step.{Step}
use Rattle.search.specs.declared.slots.Origin.{Origin}
use Rattle.search.specs.declared.slots.Origin.TheVariants.{Start, From}
use Rattle.search.proofs.Unknown.{told}
use Rattle.search.proofs.Indexing.{origin_new, value_new, origin_still, value_still, entered, no_runs}

pub counted : (ns : List Noted) → length (terms ns) ≡ length ns
counted ns = length-map ns (λ n. n.term)

pub noted_term : (ns : List Noted) (k : ℕ) → term_at (terms ns) k ≡ (noted_at ns k).term
noted_term ns k = get_or-map (λ n. n.term) ns k (record { term = zero; trail = [] })

pub noted_run : {ws : List ℕ} {ns : List Noted} → Slots ws ns → (k : ℕ) → k < length ns → Spells ws k (noted_at ns k).term
noted_run {ws} {ns} S k h = subst (Spells ws k) (noted_term ns k) (S.runs.spelled k (omega (arith, counted ns)))

-- a term is noted where the noted terms have it
module _ (t : Term) (ns : List Noted) where
  pub noted_in : t ∈ terms ns → is_noted t ns ≡ true
  noted_in m =
      told (is_noted t ns)
      (λ e. e)
      (λ e. let f : Knows ns t → ⊥ = rw e at (is_noted_reflects t ns) in absurd (f (of_map (λ n. n.term) ns m)))

  pub noted_not : (t ∈ terms ns → ⊥) → is_noted t ns ≡ false
  noted_not f =
      told (is_noted t ns)
      (λ e. let (z, m, q) : Knows ns t = rw e at (is_noted_reflects t ns) in absurd (f (rw (← q) (in_map (λ n. n.term) m))))
      (λ e. e)

-- a test of the terms is one of the noted terms
pub looked_up : {ws : List ℕ} {count : ℕ} {xs : List ℕ} {b : Bool} → Finds ws count xs b → {ns : List Noted} {t : Term} → Slots ws ns → length ns ≡ count → IsRun xs t
    → is_noted t ns ≡ b
looked_up {b = b} F {ns} {t} S c h = go b (F.exact (terms ns) t S.runs (counted ns ∙ c) h)
  where
    go : (b : Bool) → (b ≡ true) ↔ (t ∈ terms ns) → is_noted t ns ≡ b
    go true (f, g) = noted_in t ns (f refl)
    go false (f, g) = noted_not t ns (λ m. false≢true (g m))

module _ (ns : List Noted) (n : Noted) where
  pub noted_before : (k : ℕ) → k < length ns → noted_at (ns ++ (n ∷ [])) k ≡ noted_at ns k
  noted_before k h = get_or-append ns (n ∷ []) (record { term = zero; trail = [] }) k h

  pub noted_last : noted_at (ns ++ (n ∷ [])) (length ns) ≡ n
  noted_last = get_or_at ns n [] (record { term = zero; trail = [] }) (length ns) refl

  comes_still : (o : Origin) (k : ℕ) (x : Noted) → k ≤ length ns → Comes o ns k x → Comes o (ns ++ (n ∷ [])) k x
  comes_still Start k x h c = c
  comes_still (From s) k x h c =
      let p : s.parent < length ns = omega (arith, c.before) in
      record {
        before = c.before;
        line = c.line;
        marks = rw (noted_before s.parent p) c.marks;
        is = rw (noted_before s.parent p) c.is;
      }

-- one more noted term
module _ {ws ws' : List ℕ} (ns : List Noted) (n : Noted) {xs : List ℕ} {o : Origin} {d : ℕ} (E : Enters ws ws' (length ns) xs o d) (S : Slots ws ns) (r : IsRun xs n.term) where
  abbrev more : List Noted
  more = ns ++ (n ∷ [])

  runs : Runs ws' (terms more)
  runs =
      subst (Runs ws') (sym (map-append (λ x. x.term) ns (n ∷ [])))
      (entered (terms ns) n.term (subst (λ k. Enters ws ws' k xs o d) (sym (counted ns)) E) S.runs r)

  -- what holds of the old ones and of the new one
  each : (P : ℕ → Noted → Type 0) → ((k : ℕ) → k < length ns → P k (noted_at ns k)) → P (length ns) n → (k : ℕ) → k < length more → P k (noted_at more k)
  each P old new k h = go (eq-or-lt_of_le (le_of_suc-le-suc (omega (arith, h, length-append ns (n ∷ [])))))
    where
      go : (k ≡ length ns) ⊎ (k < length ns) → P k (noted_at more k)
      go (inl e) = rw (e, noted_last ns n) new
      go (inr e) = rw (noted_before ns n k e) (old k e)

  noted : Comes o more (length ns) n → d ≡ length n.trail → Slots ws' more
  noted c e =
      record {
        runs = runs;
        origin =
            each (λ k x. Comes (origin_of ws' k) more k x)
            (λ k h. rw (origin_still E k h) (comes_still ns n (origin_of ws k) k (noted_at ns k) (omega arith) (S.origin k h)))
            (rw (origin_new E) c);
        distance = each (λ k x. value_of ws' k ≡ length x.trail) (λ k h. value_still E k h ∙ S.distance k h) (value_new E ∙ e);
      }

pub starts : {ws ws' xs : List ℕ} → Enters ws ws' 0 xs Start 0 → Starts ws' xs
starts {ws} E = record { slots = λ t h. noted [] (record { term = t; trail = [] }) E none h (refl, refl) refl }
  where
    none : Slots ws []
    none = record { runs = no_runs ws; origin = λ k q. absurd (omega arith); distance = λ k q. absurd (omega arith) }

pub notes : {ws ws' : List ℕ} {count : ℕ} {xs : List ℕ} {s : Step} {d : ℕ} → Enters ws ws' count xs (From s) d → Notes ws ws' count xs s d
notes {ws} {ws'} {count} {xs} {s} {d} E = record { slots = slots }
  where
    slots : (ns : List Noted) (x : Line) → Slots ws ns → length ns ≡ count → s.parent < count
        → Marks s (noted_at ns s.parent).term x → IsRun xs x.result → d ≡ length (noted_at ns s.parent).trail + 1
        → Slots ws' (ns ++ (entry (noted_at ns s.parent).trail x ∷ []))
    slots ns x S c p m h e =
        let n : Noted = entry (noted_at ns s.parent).trail x in
        let q : s.parent < length ns = omega arith in
        let E' : Enters ws ws' (length ns) xs (From s) d = rw c E in
        noted ns n E' S h
        (record { before = q; line = x; marks = rw (noted_before ns n s.parent q) m; is = rw (noted_before ns n s.parent q) })
        (e ∙ sym (length-append (noted_at ns s.parent).trail (x ∷ [])))
