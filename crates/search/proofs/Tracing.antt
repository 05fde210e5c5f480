-- What is read from a slot, and the path read back: from the last slot to its parent, and on to the start.
use Prim.Native.Nat.{ℕ, suc, ◌+◌, ◌-◌, ◌*◌, ◌≤◌, ◌<◌}
use native.Mathlib.Omega.{arith}
use mathlib.Core.Path.{◌≡◌, refl, sym, ap, subst, ◌∙◌}
use mathlib.Core.List.{List, [], ◌∷◌, ◌++◌, append-nil}
use borrow.Author.Tests.{lt-leb, le-leb}
use lib.ListN.{length, take, get_or, set, length-append, length-set}
use Rattle.std.specs.Prelude.{Some, None}
use Rattle.std.proofs.lemmas.Option.{same_Some, none-some}
use lib.Seq.{slice, slice_empty, slice-cons, append_snoc, get_or-set_same, drop-set-lt, take-set-lt}
use Rattle.terms.specs.Term.{Term}
use Rattle.terms.specs.Held.{IsRun}
use Rattle.terms.proofs.Held.{holds_within}
use Rattle.search.specs.Line.{Line}
use Rattle.search.specs.Search.{Noted}
use Rattle.search.specs.Index.{SLOT}
use Rattle.search.specs.Runs.{Spells, origin_of, value_of, Originates, Shows, shown}
use Rattle.search.specs.Slots.{noted_at, Leads, Slots}
use Rattle.search.specs.Traced.{Linked, Traced, none, more, Traces}
use Rattle.search.specs.declared.slots.Step.{Step}
use Rattle.search.specs.declared.slots.Origin.{Origin}
use Rattle.search.specs.declared.slots.Origin.TheVariants.{Start, From}
use Rattle.search.proofs.Writing.{run_in, run_spelled}
use Rattle.search.proofs.Noting.{noted_run}

-- no slot that has a run is cut short

module _ (ws : List ℕ) (k : ℕ) where
  pub shows_none : length ws < SLOT * k + 8 + get_or ws (SLOT * k) 0 → Shows ws k []
  shows_none h = record { is = rw (lt-leb (SLOT * k + 8 + get_or ws (SLOT * k) 0) (length ws) h); exact = λ t s. absurd (omega (arith, s.count, holds_within s.held)) }

  pub shows_run : SLOT * k + 8 + get_or ws (SLOT * k) 0 ≤ length ws → Shows ws k (run_in ws k)
  shows_run h =
      let e : SLOT * k + 8 + get_or ws (SLOT * k) 0 - (SLOT * k + 8) ≡ get_or ws (SLOT * k) 0 = omega arith in
      record { is = rw (e, le-leb (SLOT * k + 8 + get_or ws (SLOT * k) 0) (length ws) h); exact = λ t s. run_spelled s }

pub spelled_shown : {ws : List ℕ} {k : ℕ} {t : Term} → Spells ws k t → IsRun (shown ws k) t
spelled_shown {ws} {k} {t} s = let S = shows_run ws k (omega (arith, s.count, holds_within s.held)) in rw S.is at (S.exact t s)

pub origin_missed : (ws : List ℕ) (k : ℕ) (o : Origin) → length ws < SLOT * k + 1 + 4 → Originates ws k o
origin_missed ws k o h = record { exact = λ t s. absurd (omega (arith, holds_within s.held)) }

-- what a slot comes from

module _ {ws : List ℕ} {ns : List Noted} (S : Slots ws ns) (k : ℕ) (h : k < length ns) where
  from_start : Start ≡ origin_of ws k → (k ≡ 0) × ((noted_at ns k).trail ≡ [])
  from_start e = rw (sym e) at (S.origin k h)

  module _ (s : Step) (e : From s ≡ origin_of ws k) where
    leads : Leads s ns k (noted_at ns k)
    leads = rw (sym e) at (S.origin k h)

    linked : Linked ws ns s.parent k leads.line
    linked =
        record {
          within = h;
          before = leads.before;
          line = record {
            run = subst (λ n. Spells ws k n.term) leads.is (noted_run S k h);
            step = s;
            origin = sym e;
            parent = refl;
            marks = leads.marks;
          };
          is = leads.is;
        }

    one_more : (noted_at ns k).trail ≡ (noted_at ns s.parent).trail ++ (leads.line ∷ [])
    one_more = ap (λ n. n.trail) leads.is

    longer : length (noted_at ns k).trail ≡ length (noted_at ns s.parent).trail + 1
    longer = ap length one_more ∙ length-append (noted_at ns s.parent).trail (leads.line ∷ [])

  -- a term without lines stands in slot 0
  first : length (noted_at ns k).trail ≡ 0 → (k ≡ 0) × ((noted_at ns k).trail ≡ [])
  first n = go (origin_of ws k) refl
    where
      go : (o : Origin) → o ≡ origin_of ws k → (k ≡ 0) × ((noted_at ns k).trail ≡ [])
      go Start e = from_start e
      go (From s) e = absurd (omega (arith, longer s e))

-- slot k is `at` lines from the start, and the slots ks lead on from it to the last slot
pub record Reaches (ws : List ℕ) (ns : List Noted) (last k at : ℕ) (ks : List ℕ) : Type 0 where
  pub within : k < length ns
  pub far : length (noted_at ns k).trail ≡ at
  pub lines : List Line
  pub whole : (noted_at ns last).trail ≡ (noted_at ns k).trail ++ lines
  pub traced : Traced ws ns k ks lines

abbrev pub Tracing : List ℕ → ℕ → ℕ → ℕ → List ℕ → Type 0
Tracing ws last k at ks = (ns : List Noted) → Slots ws ns → last < length ns → Reaches ws ns last k at ks

pub tracing_starts : (ws : List ℕ) (last count : ℕ) (path : List ℕ) → count ≡ value_of ws last → Tracing ws last last count (slice count count path)
tracing_starts ws last count path e ns S h =
    record {
      within = h;
      far = sym (e ∙ S.distance last h);
      lines = [];
      whole = sym (append-nil (noted_at ns last).trail);
      traced = rw (slice_empty count path) none;
    }

pub path_too_long : (ws : List ℕ) (last count : ℕ) (path : List ℕ) → count ≡ value_of ws last → length path < count → Traces ws last path None
path_too_long ws last count path e h =
    record { within = λ n s. absurd (none-some n s); exact = λ ns S q p. absurd (omega (arith, e, S.distance last q)) }

-- a number put before the part from position m + 1 on
slice_put : (path : List ℕ) (m count x : ℕ) → m < count → count ≤ length path → slice m count (set path m x) ≡ x ∷ slice (suc m) count path
slice_put path m count x h k =
    let i : m < length path = omega arith in
    let j : m < suc m = omega arith in
    slice-cons m count (set path m x) 0 h (omega (arith, length-set path m x))
    ∙ rw (get_or-set_same path m x 0, take-set-lt count path m x, drop-set-lt (suc m) (take count path) m x)

module _ (ws : List ℕ) (last k at : ℕ) (o : Origin) (O : Originates ws k o) (h : 0 < at) where
  pub tracing_stuck : (ks path : List ℕ) → Tracing ws last k at ks → o ≡ Start → Traces ws last path None
  tracing_stuck ks path T e =
      record {
        within = λ n s. absurd (none-some n s);
        exact = λ ns S q p.
            let t = T ns S q in
            absurd (omega (arith, t.far, ap length (from_start S k t.within (sym e ∙ O.exact (noted_at ns k).term (noted_run S k t.within))).1));
      }

  pub tracing_back : (count : ℕ) (path : List ℕ) (s : Step) → Tracing ws last k at (slice at count path) → o ≡ From s → at ≤ count → count ≤ length path
      → Tracing ws last s.parent (at - 1) (slice (at - 1) count (set path (at - 1) k))
  tracing_back count path s T e i j ns S q =
      let t = T ns S q in
      let f : From s ≡ origin_of ws k = sym e ∙ O.exact (noted_at ns k).term (noted_run S k t.within) in
      let x = (leads S k t.within s f).line in
      let m : suc (at - 1) ≡ at = omega arith in
      record {
        within = omega (arith, t.within, (leads S k t.within s f).before);
        far = omega (arith, t.far, longer S k t.within s f);
        lines = x ∷ t.lines;
        whole = t.whole ∙ ap (λ l. l ++ t.lines) (one_more S k t.within s f) ∙ append_snoc (noted_at ns s.parent).trail x t.lines;
        traced = rw (slice_put path (at - 1) count k (omega arith) j, m) (more (linked S k t.within s f) t.traced);
      }

pub tracing_ends : (ws : List ℕ) (last k at count : ℕ) (path : List ℕ) → count ≡ value_of ws last → count ≤ length path → at ≤ 0
    → Tracing ws last k at (slice at count path) → Traces ws last path (Some count)
tracing_ends ws last k at count path e h z T =
    record {
      within = λ n s. subst (λ m. m ≤ length path) (same_Some count n s) h;
      exact = λ ns S q p.
          let d = e ∙ S.distance last q in
          (ap Some d, subst (λ m. Traced ws ns 0 (take m path) (noted_at ns last).trail) d (ends ns S q (T ns S q)));
    }
  where
    ends : (ns : List Noted) → Slots ws ns → last < length ns → Reaches ws ns last k at (slice at count path) → Traced ws ns 0 (take count path) (noted_at ns last).trail
    ends ns S q t =
        let a : at ≡ 0 = omega arith in
        let f = first S k t.within (t.far ∙ a) in
        rw (t.whole ∙ ap (λ l. l ++ t.lines) f.1) (rw (f.0, a) at t.traced)
