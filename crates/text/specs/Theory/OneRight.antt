-- A text with one right line at most is read as WORDS, RENAME and SAME read it, but for the bound on its bytes; one of at most 1,024 bytes is answered as the job of six lines.
use Rattle.std.specs.Prelude.{ℕ, suc, ◌≤◌, ◌≡◌, Bool, not, ◌&&◌, List, [], ◌∷◌, ◌++◌, length, eqb, leb}
use Prim.Native.String.{String}
use Rattle.std.proofs.Common.{arith, sym, ◌∙◌, ap}
use Rattle.std.proofs.Math.Path.{refl}
use Rattle.std.proofs.Math.Bool.{true, false}
use Rattle.std.proofs.Math.Option.{Option, none, some, bind as ◌then◌, none-ne-some}
use borrow.Author.Tests.{le-leb}
use Rattle.terms.specs.Term.{Term, size, same}
use Rattle.terms.specs.Letters.{letters}
use Rattle.terms.specs.Theory.Reflects.{Reflects, eqb_reflects}
use Rattle.search.specs.Law.{semiring}
use Rattle.search.specs.Line.{Limits}
use Rattle.search.specs.Search.{noted}
use Rattle.text.specs.Bytes.{ascii, after, up_to, line, Split}
use Rattle.text.specs.TermText.{read_term}
use Rattle.text.specs.Layout.{keyed, limit_lines, Layout, layout}
use Rattle.text.specs.Answer.{Answer, refused, accepted, ◌>>=◌, require, or_refuse, fitting}
use Rattle.text.specs.Job.{Job, in_range, few, oriented, accept, read_one}
use Rattle.text.specs.FindJob.{Repeated, repeated, Layouts, layouts, read_terms, every, several, in_place, accept_each, read_find}
use Rattle.text.specs.Find.{outcome_text, searched, alone, together, find}
use Rattle.text.specs.Theory.Keyed.{some_then}

-- the lines

repeated_none : (key : String) (k : ℕ) (bs : List ℕ) → keyed key bs ≡ none → repeated key k bs ≡ record { values = []; rest = bs }
unfolding repeated
repeated_none key ℕ.zero bs e = refl
repeated_none key (suc k) bs e = rw (e, repeated)

-- where the limits stand, no line with `right=` does
limits_not_right : (bs : List ℕ) (m : Limits) → limit_lines bs ≡ some m → keyed "right=" bs ≡ none
unfolding keyed limit_lines ascii after line up_to ◌then◌
limits_not_right [] m e = refl
limits_not_right (b ∷ bs) m e = go (eqb 114 b) (eqb_reflects 114 b)
  where
    go : (c : Bool) → Reflects (114 ≡ b) c → ◌then◌ (elim c [ true ↦ after (ascii "ight=") bs | false ↦ none ]) line ≡ none
    go true h = absurd (none-ne-some m (rw (← h) at e))
    go false h = refl

-- the lines of a job with one right side
abbrev pub with_one : Layout → Layouts
with_one l = record { left = l.left; rights = l.right ∷ []; limits = l.limits }

pub layout_layouts : (bs : List ℕ) (l : Layout) → layout bs ≡ some l → layouts bs ≡ some (with_one l)
unfolding layout layouts ◌then◌
layout_layouts bs l e =
    some_then (keyed "left=" bs) _ e λ a read_left e.
    some_then (keyed "right=" a.rest) _ e λ r read_right e.
    some_then (limit_lines r.rest) _ e λ m limits e.
    let whole : ◌≡◌ {A = Layout} (record { left = a.front; right = r.front; limits = m }) l = cc in
    rw (read_left, read_right, repeated_none "right=" (length r.rest) r.rest (limits_not_right r.rest m limits), limits)
    (ap (λ l. some (with_one l)) whole)

-- no line is read
repeated_empty : (key : String) (k : ℕ) (bs : List ℕ) → length (repeated key k bs).values ≡ 0 → repeated key k bs ≡ record { values = []; rest = bs }
unfolding repeated
repeated_empty key ℕ.zero bs h = refl
repeated_empty key (suc k) bs h = go (keyed key bs) h
  where
    read : Option Split → Repeated
    read o = elim o [ none ↦ record { values = []; rest = bs } | some c ↦ let r = repeated key k c.rest in record { values = c.front ∷ r.values; rest = r.rest } ]

    go : (o : Option Split) → length (read o).values ≡ 0 → read o ≡ record { values = []; rest = bs }
    go none h = refl
    go (some c) h = absurd (omega (arith, h))

layouts_one : (bs : List ℕ) (j : Layouts) → layouts bs ≡ some j → length j.rights ≡ 1 → (l : Layout) × (layout bs ≡ some l)
unfolding layout layouts ◌then◌
layouts_one bs j e one =
    some_then (keyed "left=" bs) _ e λ a read_left e.
    some_then (keyed "right=" a.rest) _ e λ r read_right e.
    let more = repeated "right=" (length r.rest) r.rest in
    some_then (limit_lines more.rest) _ e λ m limits e.
    let whole : ◌≡◌ {A = Layouts} (record { left = a.front; rights = r.front ∷ more.values; limits = m }) j = cc in
    let no_more = repeated_empty "right=" (length r.rest) r.rest (omega (arith, ap (λ k. length k.rights) whole, one)) in
    (record { left = a.front; right = r.front; limits = m }, rw (read_left, read_right, rw no_more at limits))

layouts_none : (bs : List ℕ) → layouts bs ≡ none → layout bs ≡ none
layouts_none bs e = go (layout bs) refl
  where
    go : (o : Option Layout) → layout bs ≡ o → o ≡ none
    go none q = refl
    go (some l) q = absurd (none-ne-some (with_one l) (sym e ∙ layout_layouts bs l q))

-- the refusals

and_true : (b : Bool) → (b && true) ≡ b
and_true true = refl
and_true false = refl

-- the first refusal counts, in one list or another
chained : (a b c d : Bool) (j : Job)
    → ◌≡◌ {A = Answer (List Job)} (◌>>=◌ (require 3 a) λ _. ◌>>=◌ (require 4 b) λ _. ◌>>=◌ (require 5 c) λ _. ◌>>=◌ (require 6 d) λ _. ◌>>=◌ (require 10 true) λ _. accepted (j ∷ []))
    (◌>>=◌ (◌>>=◌ (require 3 a) λ _. ◌>>=◌ (require 4 b) λ _. ◌>>=◌ (require 5 c) λ _. ◌>>=◌ (require 6 d) λ _. accepted j) λ j. accepted (j ∷ []))
unfolding ◌>>=◌ require
chained false b c d j = refl
chained true false c d j = refl
chained true true false d j = refl
chained true true true false j = refl
chained true true true true j = refl

pub accept_one : (s t : Term) (m : Limits) → accept_each s (t ∷ []) m ≡ ◌>>=◌ (accept s t m) (λ j. accepted (j ∷ []))
unfolding accept_each accept every in_place several
accept_one s t m =
    rw (and_true (leb (size t) 31), and_true (few (letters s ++ letters t)), and_true (not (same s t)))
    (chained (leb (size s) 31 && leb (size t) 31) (few (letters s ++ letters t)) (in_range m) (not (same s t)) (oriented s t m))

-- both sides read, and the refusals that follow
both_read : (b : Bool) (o p : Option Term) (m : Limits)
    → (◌>>=◌ (require 1 b) λ _. ◌>>=◌ (or_refuse 2 o) λ s. ◌>>=◌ (or_refuse 2 (◌then◌ p (λ t. some (t ∷ [])))) λ ts. accept_each s ts m)
    ≡ ◌>>=◌ (◌>>=◌ (require 1 b) λ _. ◌>>=◌ (or_refuse 2 o) λ s. ◌>>=◌ (or_refuse 2 p) λ t. accept s t m) (λ j. accepted (j ∷ []))
unfolding ◌>>=◌ require or_refuse ◌then◌
both_read false o p m = refl
both_read true none p m = refl
both_read true (some s) none m = refl
both_read true (some s) (some t) m = accept_one s t m

laid_out : (bs : List ℕ) (l : Layout) → layout bs ≡ some l → read_find bs ≡ ◌>>=◌ (read_one 4096 bs) (λ j. accepted (j ∷ []))
unfolding read_find read_terms read_one
laid_out bs l e = rw (layout_layouts bs l e, e) (both_read (leb (length bs) 4096) (read_term l.left) (read_term l.right) l.limits)

malformed : (b : Bool) → ◌≡◌ {A = Answer (List Job)} (◌>>=◌ (require 1 b) λ _. refused 1) (◌>>=◌ (◌>>=◌ (require 1 b) λ _. refused 1) (λ (j : Job). accepted (j ∷ [])))
unfolding ◌>>=◌ require
malformed true = refl
malformed false = refl

-- a text that is malformed or has one right line
abbrev pub OneAtMost : Option Layouts → Type 0
OneAtMost none = Unit {0}
OneAtMost (some j) = length j.rights ≡ 1

pub read_as_one : (bs : List ℕ) → OneAtMost (layouts bs) → read_find bs ≡ ◌>>=◌ (read_one 4096 bs) (λ j. accepted (j ∷ []))
unfolding read_find read_one ◌>>=◌ or_refuse
read_as_one bs h = go (layouts bs) refl h
  where
    go : (o : Option Layouts) → layouts bs ≡ o → OneAtMost o → read_find bs ≡ ◌>>=◌ (read_one 4096 bs) (λ j. accepted (j ∷ []))
    go none e h = rw (e, layouts_none bs e) (malformed (leb (length bs) 4096))
    go (some j) e h = let (l, laid) = layouts_one bs j e h in laid_out bs l laid

-- the answer

-- to one right side, with a bound on the bytes: 1 to 6, then 7, then 8
unfoldable pub find_one : (most : ℕ) → (job : List ℕ) (slots room : ℕ) → Answer (List ℕ)
unfolding ◌>>=◌ require read_one outcome_text fitting
find_one most bs slots room = do
  j ← read_one most bs
  _ ← require 7 (leb (noted (searched j)) slots)
  fitting room (outcome_text semiring j (searched j))

module _ (slots room : ℕ) where
  fitted_alone : (b : Bool) (t : List ℕ) → ◌>>=◌ (◌>>=◌ (require 7 b) (λ _. accepted t)) (fitting room) ≡ ◌>>=◌ (require 7 b) (λ _. fitting room t)
  unfolding ◌>>=◌ require
  fitted_alone true t = refl
  fitted_alone false t = refl

  together_one : (a : Answer Job) → ◌>>=◌ (◌>>=◌ a (λ j. accepted (j ∷ []))) (λ js. ◌>>=◌ (together slots js) (fitting room))
      ≡ ◌>>=◌ a (λ j. ◌>>=◌ (require 7 (leb (noted (searched j)) slots)) (λ _. fitting room (outcome_text semiring j (searched j))))
  unfolding ◌>>=◌ together alone
  together_one (refused n) = refl
  together_one (accepted j) = fitted_alone (leb (noted (searched j)) slots) (outcome_text semiring j (searched j))

  pub find_as_one : (bs : List ℕ) → OneAtMost (layouts bs) → find bs slots room ≡ find_one 4096 bs slots room
  unfolding find find_one
  find_as_one bs h = rw (read_as_one bs h) (together_one (read_one 4096 bs))

  -- a text of at most 1,024 bytes with one right line at most is answered as the job of six lines
  pub as_six_lines : (bs : List ℕ) → length bs ≤ 1024 → OneAtMost (layouts bs) → find bs slots room ≡ find_one 1024 bs slots room
  unfolding find_one read_one
  as_six_lines bs short h = find_as_one bs h ∙ rw (le-leb (length bs) 4096 (omega arith), le-leb (length bs) 1024 short)
