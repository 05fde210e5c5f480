-- Paths in the slots of a workspace: their lines put one after the other, and the laws that they use.
use Rattle.std.specs.Bool.{MatchBool}
use Rattle.std.specs.List.{HoldsAt, AllWithin}
use Prim.Native.Nat.{ℕ, suc, ◌+◌, ◌≤◌, ◌<◌}
use Prim.Native.Char.{code}
use native.Mathlib.Omega.{arith}
use native.Mathlib.Numerals.{add-one}
use mathlib.Core.Path.{◌≡◌, refl, sym, ap, subst, ◌∙◌}
use mathlib.Core.Bool.{Bool, true, false}
use mathlib.Core.List.{List, [], ◌∷◌, ◌++◌, append-nil, flat_map}
use lib.Dec.{eqb}
use lib.ListN.{length, take, get_or, length-append}
use lib.Seq.{take-suc, take_all}
use Rattle.terms.specs.Term.{Term}
use Rattle.terms.specs.Held.{IsRun}
use Rattle.search.specs.Law as law
use Rattle.search.specs.Law.{Name, rank, semiring}
use Rattle.search.specs.Line.{Line}
use Rattle.search.specs.Search.{Noted}
use Rattle.search.specs.Coded.{name_of, numbered_law, law_at}
use Rattle.search.specs.Runs.{Originates, Shows}
use Rattle.search.specs.Slots.{Marks, noted_at, Slots}
use Rattle.search.specs.Traced.{Linked, Traced, none, more}
use Rattle.search.specs.declared.search.Law.{Law}
use Rattle.search.specs.declared.slots.Step.{Step}
use Rattle.search.specs.declared.slots.Origin.{Origin}
use Rattle.search.specs.declared.slots.Origin.TheVariants.{Start, From}
use Rattle.search.proofs.Coded.{law_named, law_numbered}
use Rattle.search.proofs.Noting.{noted_run}
use Rattle.search.proofs.Rising.{line_at}
use Rattle.search.proofs.Traced.{traced_at}
use Rattle.text.specs.Bytes.{parted}
use Rattle.text.specs.Items.{gap}
use Rattle.text.specs.StepText.{law_name}
use Rattle.text.specs.Find.{step, used, uses}
use Rattle.text.specs.Walk.{Walk}
use Rattle.text.specs.Writer.{Writes}
use Rattle.text.specs.declared.writer.Writer.{Writer}
use Rattle.text.proofs.Writing.{then, put_as, put_none, put_each_more}
use Rattle.text.proofs.Items.{parted_more}

-- ---- what a slot comes from

same_step : (s p : Step) → From s ≡ From p → s ≡ p
same_step s p e = cc

module _ {ws : List ℕ} {k : ℕ} {o : Origin} (O : Originates ws k o) {ns : List Noted} {j : ℕ} {x : Line} (L : Linked ws ns j k x) where
  origin : o ≡ From L.line.step
  origin = O.exact x.result L.line.run ∙ L.line.origin

  pub no_start : o ≡ Start → ⊥
  no_start e = let f : Start ≡ From L.line.step = sym e ∙ origin in let z : ◌≡◌ {A = ℕ} 0 1 = cc in omega arith

  module _ (s : Step) (e : o ≡ From s) where
    step_read : s ≡ L.line.step
    step_read = same_step s L.line.step (sym e ∙ origin)

    pub marks_read : Marks s (noted_at ns j).term x
    marks_read = rw step_read L.line.marks

    pub parent_read : s.parent ≡ j
    parent_read = ap (λ s. s.parent) step_read ∙ L.line.parent

-- ---- lines

abbrev PutsStep : (ws : List ℕ) (k : ℕ) (o o₁ : Writer) → Type 0
PutsStep ws k o o₁ = (ns : List Noted) (j : ℕ) (x : Line) → Slots ws ns → Linked ws ns j k x → Writes (step x) o o₁

pub no_step : {ws : List ℕ} {k : ℕ} {f : Origin} {o o₁ : Writer} → Originates ws k f → f ≡ Start → PutsStep ws k o o₁
no_step O e ns j x S L = absurd (no_start O L e)

pub one_step : {ws : List ℕ} {k : ℕ} {f : Origin} {ys zs : List ℕ} {o o₁ : Writer} (s : Step) → Originates ws k f → f ≡ From s → Shows ws s.parent ys → Shows ws k zs
    → ((t : Term) (x : Line) → IsRun ys t → Marks s t x → IsRun zs x.result → Writes (step x) o o₁) → PutsStep ws k o o₁
one_step {ws} {k} s O e Y Z P ns j x S L =
    let h : s.parent < length ns = omega (arith, L.before, L.within, parent_read O L s e) in
    let y = Y.exact (noted_at ns s.parent).term (noted_run S s.parent h) in
    let m = subst (λ i. Marks s (noted_at ns i).term x) (sym (parent_read O L s e)) (marks_read O L s e) in
    P (noted_at ns s.parent).term x y m (Z.exact x.result L.line.run)

-- ---- paths

pub traced_length : {ws : List ℕ} {ns : List Noted} {ks : List ℕ} {j : ℕ} {xs : List Line} → Traced ws ns j ks xs → length xs ≡ length ks
traced_length none = refl
traced_length (more h T) = ap suc (traced_length T)

-- the first i lines of a path are put
abbrev pub PutsSteps : (ws ks : List ℕ) (i : ℕ) (o o₁ : Writer) → Type 0
PutsSteps ws ks i o o₁ = (s : Term) (xs : List Line) → Walk ws ks s xs → Writes (flat_map step (take i xs)) o o₁

pub steps_start : (ws ks : List ℕ) (o : Writer) → PutsSteps ws ks 0 o o
unfolding flat_map
steps_start ws ks o s xs W = put_none o

pub steps_more : {ws ks : List ℕ} {o o₁ o₂ : Writer} (i : ℕ) → i < length ks → PutsSteps ws ks i o o₁ → PutsStep ws (get_or ks i 0) o₁ o₂ → PutsSteps ws ks (i + 1) o o₂
steps_more {ws} {ks} i h P Q s xs W =
    put_each_more step _ xs i (omega (arith, traced_length W.lines)) (P s xs W)
    (Q W.noted (get_or (0 ∷ ks) i 0) (line_at xs i) W.slots (traced_at W.lines i h))

pub steps_all : {ws ks : List ℕ} {o o₁ : Writer} (i : ℕ) → length ks ≤ i → PutsSteps ws ks i o o₁
    → (s : Term) (xs : List Line) → Walk ws ks s xs → Writes (flat_map step xs) o o₁
steps_all i h P s xs W = put_as (ap (flat_map step) (take_all i xs (omega (arith, traced_length W.lines)))) (P s xs W)

-- ---- the laws of a path

-- what is said of a line that is, or is not, by a law
abbrev pub Leads : (ws : List ℕ) (k : ℕ) (w : Law) (b : Bool) → Type 0
Leads ws k w b = (ns : List Noted) (j : ℕ) (x : Line) → Slots ws ns → Linked ws ns j k x → b ≡ eqb (rank (name_of w)) (rank x.law)

-- whether the law is used is told
abbrev pub Tells : (ws ks : List ℕ) (w : Law) (b : Bool) → Type 0
Tells ws ks w b = (s : Term) (xs : List Line) → Walk ws ks s xs → b ≡ used (name_of w) xs

module _ (n : Name) (x : Line) (xs : List Line) where
  used_here : true ≡ eqb (rank n) (rank x.law) → used n (x ∷ xs) ≡ true
  unfolding used
  used_here e = rw (← e, used)

  used_later : false ≡ eqb (rank n) (rank x.law) → used n (x ∷ xs) ≡ used n xs
  unfolding used
  used_later e = rw (← e, used)

used_at : (n : Name) (xs : List Line) (i : ℕ) → i < length xs → true ≡ eqb (rank n) (rank (line_at xs i).law) → used n xs ≡ true
used_at n [] i h e = absurd (omega arith)
used_at n (x ∷ xs) ℕ.zero h e = used_here n x xs e
used_at n (x ∷ xs) (suc i) h e = go (used_at n xs i (omega arith) e) (eqb (rank n) (rank x.law)) refl
  where
    go : used n xs ≡ true → (b : Bool) → b ≡ eqb (rank n) (rank x.law) → used n (x ∷ xs) ≡ true
    go u true q = used_here n x xs q
    go u false q = used_later n x xs q ∙ u

used_nowhere : (n : Name) (xs : List Line) → ((i : ℕ) → i < length xs → false ≡ eqb (rank n) (rank (line_at xs i).law)) → used n xs ≡ false
unfolding used
used_nowhere n [] f = refl
used_nowhere n (x ∷ xs) f = used_later n x xs (f 0 (omega arith)) ∙ used_nowhere n xs (λ i h. f (suc i) (omega arith))

-- from what is told of each slot
pub used_told : {ws ks : List ℕ} (w : Law) (b : Bool)
    → MatchBool b ((i : ℕ) × (i < length ks) × HoldsAt (λ k. Leads ws k w true) ks i) (AllWithin (λ k. Leads ws k w false) ks 0 (length ks)) → Tells ws ks w b
used_told {ws} {ks} w true (i, h, L) s xs W =
    sym (used_at (name_of w) xs i (omega (arith, traced_length W.lines)) (L 0 W.noted (get_or (0 ∷ ks) i 0) (line_at xs i) W.slots (traced_at W.lines i h)))
used_told {ws} {ks} w false F s xs W =
    sym
    (used_nowhere (name_of w) xs
    (λ i h.
    let k : i < length ks = omega (arith, traced_length W.lines) in
    F i 0 (omega arith) k W.noted (get_or (0 ∷ ks) i 0) (line_at xs i) W.slots (traced_at W.lines i k)))

-- ---- the laws that are used

behind_if : (b : Bool) (p : List ℕ) (ps qs rs : List (List ℕ)) → ps ≡ qs ++ rs → elim b [ true ↦ p ∷ ps | false ↦ ps ] ≡ elim b [ true ↦ p ∷ qs | false ↦ qs ] ++ rs
behind_if true p ps qs rs e = ap (λ l. p ∷ l) e
behind_if false p ps qs rs e = e

uses_behind : (vs : List law.Law) (v : law.Law) (xs : List Line) → uses (vs ++ (v ∷ [])) xs ≡ uses vs xs ++ uses (v ∷ []) xs
unfolding uses
uses_behind [] v xs = refl
uses_behind (w ∷ vs) v xs = behind_if (used w.name xs) (law_name w.name) (uses (vs ++ (v ∷ [])) xs) (uses vs xs) (uses (v ∷ []) xs) (uses_behind vs v xs)

module _ (v : law.Law) (xs : List Line) where
  uses_one : true ≡ used v.name xs → uses (v ∷ []) xs ≡ law_name v.name ∷ []
  unfolding uses
  uses_one e = rw (← e, uses)

  uses_none : false ≡ used v.name xs → uses (v ∷ []) xs ≡ []
  unfolding uses
  uses_none e = rw (← e, uses)

-- those of the first n laws that the path uses are put, and counted
abbrev pub PutsUses : (ws ks : List ℕ) (n count : ℕ) (o o₁ : Writer) → Type 0
PutsUses ws ks n count o o₁ =
    (s : Term) (xs : List Line) → Walk ws ks s xs → (count ≡ length (uses (take n semiring) xs)) × Writes (parted (code ",") (uses (take n semiring) xs)) o o₁

pub uses_start : (ws ks : List ℕ) (o : Writer) → PutsUses ws ks 0 0 o o
unfolding uses parted
uses_start ws ks o s xs W = (refl, put_none o)

pub uses_all : {ws ks : List ℕ} {o o₁ : Writer} (n count : ℕ) → 10 ≤ n → PutsUses ws ks n count o o₁
    → (s : Term) (xs : List Line) → Walk ws ks s xs → Writes (parted (code ",") (uses semiring xs)) o o₁
unfolding semiring
uses_all n count h P s xs W = put_as (ap (λ l. parted (code ",") (uses l xs)) (take_all n semiring h)) (P s xs W).1

module _ (n : ℕ) (h : n < 10) (w : Law) (is : w ≡ numbered_law n) where
  law_more : take (n + 1) semiring ≡ take n semiring ++ (law_at n ∷ [])
  unfolding semiring law_at
  law_more = rw add-one (take-suc semiring n _ h)

  name_at : name_of w ≡ (law_at n).name
  name_at = sym (law_named w) ∙ ap (λ v. v.name) (law_numbered w n h is)

  uses_at : (xs : List Line) → uses (take (n + 1) semiring) xs ≡ uses (take n semiring) xs ++ uses (law_at n ∷ []) xs
  uses_at xs = ap (λ l. uses l xs) law_more ∙ uses_behind (take n semiring) (law_at n) xs

  module _ {ws ks : List ℕ} {o o₁ : Writer} {count : ℕ} (P : PutsUses ws ks n count o o₁) where
    pub uses_skip : {u : Bool} → Tells ws ks w u → u ≡ false → PutsUses ws ks (n + 1) count o o₁
    uses_skip T e s xs W = subst (λ l. (count ≡ length l) × Writes (parted (code ",") l) o o₁) (sym same) (P s xs W)
      where
        same : uses (take (n + 1) semiring) xs ≡ uses (take n semiring) xs
        same = uses_at xs ∙ ap (λ l. uses (take n semiring) xs ++ l) (uses_none (law_at n) xs (sym e ∙ T s xs W ∙ ap (λ m. used m xs) name_at)) ∙ append-nil (uses (take n semiring) xs)

    pub uses_more : {o₂ o₃ : Writer} {u : Bool} → Tells ws ks w u → u ≡ true → Writes (gap (code ",") count) o₁ o₂ → Writes (law_name (name_of w)) o₂ o₃ → PutsUses ws ks (n + 1) (count + 1) o o₃
    uses_more T e p q s xs W = (
      omega (arith, (P s xs W).0, ap length longer, length-append (uses (take n semiring) xs) (law_name (name_of w) ∷ [])),
      put_as (ap (λ k. (parted (code ",") (uses (take n semiring) xs) ++ gap (code ",") k) ++ law_name (name_of w)) (P s xs W).0
          ∙ parted_more (code ",") (uses (take n semiring) xs) (law_name (name_of w))
          ∙ ap (parted (code ",")) (sym longer))
          (then (then (P s xs W).1 p) q),
    )
      where
        longer : uses (take (n + 1) semiring) xs ≡ uses (take n semiring) xs ++ (law_name (name_of w) ∷ [])
        longer =
            uses_at xs
            ∙ ap (λ l. uses (take n semiring) xs ++ l) (uses_one (law_at n) xs (sym e ∙ T s xs W ∙ ap (λ m. used m xs) name_at) ∙ ap (λ m. law_name m ∷ []) (sym name_at))
