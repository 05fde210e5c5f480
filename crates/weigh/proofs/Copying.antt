-- The way to a term, read back from its slot to its parent's and on to left's, and the terms on it copied.
use Rattle.std.specs.Prelude.{ℕ, suc, ◌+◌, ◌-◌, ◌≤◌, ◌<◌, ◌≡◌, List, [], ◌∷◌, ◌++◌, length, drop, get_or, set, Some, None}
use Rattle.std.proofs.Common.{arith, sym, ◌∙◌, ap, rules, add-one}
use Rattle.std.proofs.Math.Path.{refl, subst}
use mathlib.Core.List.{append-nil}
use lib.ListN.{length-append, length-set}
use Rattle.std.proofs.Math.ListN.{drop_of_length-le}
use lib.Seq.{append_snoc, get_or-set_same, drop-cons, drop-length, drop-set-lt}
use Rattle.std.proofs.lemmas.Option.{same_Some}
use Rattle.search.specs.Line.{Line}
use Rattle.search.specs.Search.{Noted, entry}
use Rattle.search.specs.Slots.{noted_at, Marks, Slots, Starts, Notes}
use Rattle.search.specs.Runs.{origin_of, Originates, Shows}
use Rattle.search.specs.declared.slots.Step.{Step}
use Rattle.search.specs.declared.slots.Origin.{Origin}
use Rattle.search.specs.declared.slots.Origin.TheVariants.{Start, From}
use Rattle.weigh.specs.Weigh.{Weighed}
use Rattle.weigh.specs.Slots.{weighed_at, Leads, WeighSlots}
use Rattle.weigh.specs.Copied.{Linked, Way, none, more, WaysTo, CopiesWay}
use Rattle.search.proofs.Noting.{noted_before, noted_last}
use Rattle.terms.specs.Held.{IsRun}
use Rattle.terms.specs.Theory.Held.{size_of}
use Rattle.weigh.proofs.Naming.{weighed_run}

start≢from : {s : Step} → Start ≡ From s → ⊥
start≢from e = cc

from_same : {s t : Step} → From s ≡ From t → s ≡ t
from_same e = cc

-- slot k is on the way to the last slot, and the slots in path from `at` on lead on to it
pub record Reaches (ws : List ℕ) (es : List Weighed) (last k at : ℕ) (path : List ℕ) : Type 0 where
  pub within : k < length es
  pub lines : List Line
  pub whole : (weighed_at es last).trail ≡ (weighed_at es k).trail ++ lines
  pub count : length lines + at ≡ length path
  pub way : Way ws es k (drop at path) lines

abbrev pub Reaching : List ℕ → ℕ → ℕ → ℕ → List ℕ → Type 0
Reaching ws last k at path = (es : List Weighed) → WeighSlots ws es → last < length es → Reaches ws es last k at path

pub reaching_starts : (ws : List ℕ) (last : ℕ) (path : List ℕ) → Reaching ws last last (length path) path
reaching_starts ws last path es S h =
    record {
      within = h;
      lines = [];
      whole = sym (append-nil (weighed_at es last).trail);
      count = omega arith;
      way = rw (drop-length path) none;
    }

-- what a slot comes from
module _ {ws : List ℕ} {es : List Weighed} (S : WeighSlots ws es) (k : ℕ) (h : k < length es) {o : Origin} (O : Originates ws k o) where
  origin_is : o ≡ origin_of ws k
  origin_is = O.exact (weighed_at es k).term (weighed_run S k h)

  pub from_start : o ≡ Start → (k ≡ 0) × ((weighed_at es k).trail ≡ [])
  from_start e = rw (sym origin_is ∙ e) at (S.origin k h)

  module _ (s : Step) (e : o ≡ From s) where
    pub leads : Leads s es (weighed_at es k)
    leads = rw (sym origin_is ∙ e) at (S.origin k h)

    pub linked : Linked ws es s.parent k leads.line
    linked =
        record {
          within = h;
          step = s;
          origin = sym origin_is ∙ e;
          parent = refl;
          marks = leads.marks;
          result = leads.result;
          trail = leads.trail;
        }

    longer : length (weighed_at es k).trail ≡ length (weighed_at es s.parent).trail + 1
    longer = ap length leads.trail ∙ length-append (weighed_at es s.parent).trail (leads.line ∷ [])

-- a number put before the part from position m + 1 on
drop_put : (path : List ℕ) (m x : ℕ) → m < length path → drop m (set path m x) ≡ x ∷ drop (suc m) path
drop_put path m x h =
    let j : m < suc m = omega arith in
    drop-cons (set path m x) m 0 (omega (arith, length-set path m x)) ∙ rw (get_or-set_same path m x 0, drop-set-lt (suc m) path m x)

module _ (ws : List ℕ) (last k at : ℕ) (o : Origin) (O : Originates ws k o) (path : List ℕ) (T : Reaching ws last k at path) where
  pub reaching_back : (s : Step) → o ≡ From s → 0 < at → at ≤ length path → Reaching ws last s.parent (at - 1) (set path (at - 1) k)
  reaching_back s e i j es S q =
      let t = T es S q in
      let l = leads S k t.within O s e in
      let m : suc (at - 1) ≡ at = omega arith in
      record {
        within = l.within;
        lines = l.line ∷ t.lines;
        whole = t.whole ∙ ap (λ xs. xs ++ t.lines) l.trail ∙ append_snoc (weighed_at es s.parent).trail l.line t.lines;
        count = omega (arith, t.count, length-set path (at - 1) k);
        way = rw (drop_put path (at - 1) k (omega arith), m) (more (linked S k t.within O s e) t.way);
      }

  -- a way that goes on before the front of path is longer than that
  pub way_too_long : (s : Step) → o ≡ From s → at ≡ 0 → WaysTo ws last path None
  way_too_long s e z =
      record {
        within = λ from h. search rules;
        exact = λ es S q short.
            let t = T es S q in
            absurd (omega (arith, t.count, longer S k t.within O s e, ap length t.whole, length-append (weighed_at es k).trail t.lines, short));
      }

  pub way_ends : o ≡ Start → at ≤ length path → WaysTo ws last path (Some at)
  way_ends e h =
      record {
        within = λ from f. subst (λ n. n ≤ length path) (same_Some at from f) h;
        exact = λ es S q short.
            let t = T es S q in
            let f = from_start S k t.within O e in
            let w : (weighed_at es last).trail ≡ t.lines = t.whole ∙ ap (λ xs. xs ++ t.lines) f.1 in
            (rw (w, sym f.0) t.way, rw (f.0) at f.1);
      }

-- ---- the copy

-- the noted term of an entry, without its total
abbrev plain : Weighed → Noted
plain x = record { term = x.term; trail = x.trail }

-- the first terms of a way stand in out, the last of them being that of slot k, which is i lines from left
pub record Copies (es : List Weighed) (k i : ℕ) (out : List ℕ) : Type 0 where
  pub noted : List Noted
  pub slots : Slots out noted
  pub count : length noted ≡ i + 1
  pub start : (noted_at noted 0).term ≡ (weighed_at es 0).term
  pub within : k < length es
  pub last : noted_at noted i ≡ plain (weighed_at es k)
  pub far : length (weighed_at es k).trail ≡ i

-- what is left of a way before its i-th slot is copied: the terms before that stand in out
abbrev pub Copying : List ℕ → List ℕ → ℕ → List ℕ → Type 0
Copying ws way i out = (es : List Weighed) (xs : List Line) → WeighSlots ws es → 0 < length es → Way ws es 0 way xs → (weighed_at es 0).trail ≡ []
    → (k : ℕ) × (ys : List Line) × Copies es k i out × Way ws es k (drop i way) ys × ((weighed_at es k).trail ++ ys ≡ xs)

module _ (ws : List ℕ) {xs : List ℕ} (S : Shows ws 0 xs) where
  -- left is copied first
  -- if there is room for it
  pub left_large : (way out : List ℕ) → 31 < length xs → CopiesWay ws way out
  left_large way out h =
      record {
        exact = λ es last W q V z.
            let w = weighed_run W 0 (omega arith) in
            absurd (omega (arith, size_of (S.exact _ w), w.small));
      }

  pub copying_starts : (way out : List ℕ) → Starts out xs → Copying ws way 0 out
  copying_starts way out N es ys W some_term T e = (
    0,
    ys,
    record {
      noted = plain (weighed_at es 0) ∷ [];
      slots = subst (λ t. Slots out (record { term = (weighed_at es 0).term; trail = t } ∷ [])) (sym e) (N.slots (weighed_at es 0).term (S.exact (weighed_at es 0).term (weighed_run W 0 some_term)));
      count = refl;
      start = refl;
      within = some_term;
      last = refl;
      far = ap length e;
    },
    T,
    ap (λ t. t ++ ys) e,
  )

-- the first slot of what is left of a way, and its line
record First (ws : List ℕ) (es : List Weighed) (j m : ℕ) (ms : List ℕ) (ys : List Line) : Type 0 where
  line : Line
  link : Linked ws es j m line
  rest : List Line
  way : Way ws es m ms rest
  all : ys ≡ line ∷ rest

first_of_way : {ws : List ℕ} {es : List Weighed} {j m : ℕ} {ms : List ℕ} {ys : List Line} → Way ws es j (m ∷ ms) ys → First ws es j m ms ys
first_of_way (more h T) = record { line = _; link = h; rest = _; way = T; all = refl }

-- the next slot of a way
module _ (ws way out : List ℕ) (i : ℕ) (h : i < length way) (T : Copying ws way i out) where
  next : (es : List Weighed) (xs : List Line) → WeighSlots ws es → 0 < length es → Way ws es 0 way xs → (weighed_at es 0).trail ≡ []
      → (j : ℕ) × (ys : List Line) × Copies es j i out × First ws es j (get_or way i 0) (drop (suc i) way) ys × ((weighed_at es j).trail ++ ys ≡ xs)
  next es xs W some_term V e =
      let (j, ys, C, R, f) = T es xs W some_term V e in
      (j, ys, C, first_of_way (rw (drop-cons way i 0 h) at R), f)

  -- has a parent, and a run for which there is room
  pub copying_parted : {o : Origin} → Originates ws (get_or way i 0) o → o ≡ Start → CopiesWay ws way out
  copying_parted O e =
      record {
        exact = λ es last W q V z.
            let (j, ys, C, F, f) = next es (weighed_at es last).trail W (omega arith) V z in
            absurd (start≢from (sym e ∙ origin_is W (get_or way i 0) F.link.within O ∙ F.link.origin));
      }

  pub copying_large : {xs : List ℕ} → Shows ws (get_or way i 0) xs → 31 < length xs → CopiesWay ws way out
  copying_large S g =
      record {
        exact = λ es last W q V z.
            let (j, ys, C, F, f) = next es (weighed_at es last).trail W (omega arith) V z in
            let w = weighed_run W (get_or way i 0) F.link.within in
            absurd (omega (arith, size_of (S.exact _ w), w.small));
      }

  pub copying_on : (out' : List ℕ) {xs : List ℕ} (s : Step) {o : Origin} → Originates ws (get_or way i 0) o → o ≡ From s → Shows ws (get_or way i 0) xs
      → Notes out out' (i + 1) xs (record { law = s.law; direction = s.direction; place = s.place; parent = i }) (i + 1) → Copying ws way (i + 1) out'
  copying_on out' s O e S N es xs W some_term V z =
      let (j, ys, C, F, f) = next es xs W some_term V z in
      let k : ℕ = get_or way i 0 in
      let x : Line = F.line in
      let same_step : s ≡ F.link.step = from_same (sym e ∙ origin_is W k F.link.within O ∙ F.link.origin) in
      let marks : Marks s (noted_at C.noted i).term x = rw (ap (λ n. n.term) C.last, same_step) F.link.marks in
      let trail : (noted_at C.noted i).trail ≡ (weighed_at es j).trail = ap (λ n. n.trail) C.last in
      let run : IsRun _ x.result = subst (IsRun _) F.link.result (S.exact _ (weighed_run W k F.link.within)) in
      let new : Noted = entry (noted_at C.noted i).trail x in
      let at_end : noted_at (C.noted ++ (new ∷ [])) (i + 1) ≡ new = rw (← C.count) (noted_last C.noted new) in
      let is : new ≡ plain (weighed_at es k) = rw (F.link.result, F.link.trail, trail) refl in (
        k,
        F.rest,
        record {
          noted = C.noted ++ (new ∷ []);
          slots =
              N.slots C.noted x C.slots C.count (omega arith)
              (record { law = marks.law; direction = marks.direction; inside = marks.inside; place = marks.place })
              run (omega (arith, ap length trail, C.far));
          count = omega (arith, length-append C.noted (new ∷ []), C.count);
          start = ap (λ n. n.term) (noted_before C.noted new 0 (omega (arith, C.count))) ∙ C.start;
          within = F.link.within;
          last = at_end ∙ is;
          far = omega (arith, ap length F.link.trail, length-append (weighed_at es j).trail (x ∷ []), C.far);
        },
        rw add-one F.way,
        ap (λ t. t ++ F.rest) F.link.trail ∙ append_snoc (weighed_at es j).trail x F.rest ∙ ap (λ t. (weighed_at es j).trail ++ t) (sym F.all) ∙ f,
      )

no_lines_left : {ws : List ℕ} {es : List Weighed} {j : ℕ} {ys : List Line} → Way ws es j [] ys → ys ≡ []
no_lines_left none = refl

pub copying_ends : (ws way out : List ℕ) (i : ℕ) → i ≤ length way → length way ≤ i → Copying ws way i out → CopiesWay ws way out
copying_ends ws way out i h k T =
    record {
      exact = λ es last W q V z.
          let (j, ys, C, R, f) = T es (weighed_at es last).trail W (omega arith) V z in
          let all : i ≡ length way = omega arith in
          let none_left : ys ≡ [] = no_lines_left (rw (drop_of_length-le way k) at R) in
          record {
            noted = C.noted;
            slots = C.slots;
            count = rw (← all) C.count;
            start = C.start;
            trail = rw (← all) (ap (λ n. n.trail) C.last) ∙ sym (append-nil (weighed_at es j).trail) ∙ ap (λ t. (weighed_at es j).trail ++ t) (sym none_left) ∙ f;
          };
    }
