-- FIND's job: one `right=` line or more, up to 4,096 bytes, refusals 1 to 6, 9 and 10. Other jobs have one, and up to 1,024 bytes (Job).
use Rattle.std.specs.Prelude.{ℕ, suc, Bool, true, false, not, ◌&&◌, List, [], ◌∷◌, ◌++◌, map, length, leb}
use Prim.Native.String.{String}
use Rattle.std.proofs.Math.Option.{Option, none, some, bind as ◌then◌}
use Rattle.terms.specs.Compare.{lt, eq, gt}
use Rattle.terms.specs.Term.{Term, size, order, same}
use Rattle.terms.specs.Letters.{letters, rising, those_below}
use Rattle.search.specs.Line.{Limits}
use Rattle.text.specs.TermText.{read_term}
use Rattle.text.specs.Layout.{keyed, limit_lines}
use Rattle.text.specs.Answer.{Answer, accepted, ◌>>=◌, require, or_refuse, field}
use Rattle.text.specs.Job.{Job, in_range, oriented, few}

-- the values of the lines with one key, and what follows them
pub record Repeated : Type 0 where
  pub values : List (List ℕ)
  pub rest : List ℕ

-- at most k lines, one after the other
unfoldable pub repeated : String → (k : ℕ) → List ℕ → Repeated
unfolding keyed
repeated key ℕ.zero bs = record { values = []; rest = bs }
repeated key (suc k) bs =
    elim (keyed key bs) [
      | none ↦ record { values = []; rest = bs }
      | some c ↦ let r = repeated key k c.rest in record { values = c.front ∷ r.values; rest = r.rest }
    ]

-- the sides as they are written, the limits read
pub record Layouts : Type 0 where
  pub left : List ℕ
  pub rights : List (List ℕ)
  pub limits : Limits

-- a line has a byte at least, so that there are no more lines than bytes
unfoldable pub layouts : List ℕ → Option Layouts
unfolding ◌then◌ keyed repeated limit_lines
layouts bs =
    ◌then◌ (keyed "left=" bs) λ l.
    ◌then◌ (keyed "right=" l.rest) λ r.
    let more = repeated "right=" (length r.rest) r.rest in
    ◌then◌ (limit_lines more.rest) λ m.
    some (record { left = l.front; rights = r.front ∷ more.values; limits = m })

-- the text of a job with one right line
abbrev pub alone_text : (left right limits : List ℕ) → List ℕ
alone_text left right limits = field "left=" left ++ (field "right=" right ++ limits)

-- the texts with one of the right lines each, in job order
abbrev pub alone_texts : Layouts → (limits : List ℕ) → List (List ℕ)
alone_texts w limits = map (λ right. alone_text w.left right limits) w.rights

unfoldable pub read_terms : List (List ℕ) → Option (List Term)
unfolding ◌then◌ read_term
read_terms [] = some []
read_terms (b ∷ bs) = ◌then◌ (read_term b) λ t. ◌then◌ (read_terms bs) λ ts. some (t ∷ ts)

unfoldable pub every : (Term → Bool) → List Term → Bool
every p [] = true
every p (t ∷ ts) = p t && every p ts

-- one term comes before another in term order
unfoldable pub comes_before : Term → Term → Bool
unfolding order
comes_before s t = elim (order s t) [ lt ↦ true | eq ↦ false | gt ↦ false ]

-- there are several right sides
unfoldable pub several : List Term → Bool
several [] = false
several (t ∷ []) = false
several (t ∷ u ∷ us) = true

-- of several right sides none comes before left
unfoldable pub in_place : Term → List Term → Bool
unfolding several every comes_before
in_place s ts = elim (several ts) [ true ↦ every (λ t. not (comes_before t s)) ts | false ↦ true ]

-- at most 31 nodes each
abbrev pub all_small : List Term → Bool
all_small = every (λ t. leb (size t) 31)

-- refusals 3 to 6 and 10; v letters are counted for each equation by itself
unfoldable pub accept_each : Term → List Term → Limits → Answer (List Job)
unfolding ◌>>=◌ require size rising those_below letters in_range same oriented every in_place
accept_each s ts m = do
  _ ← require 3 (leb (size s) 31 && all_small ts)
  _ ← require 4 (every (λ t. few (letters s ++ letters t)) ts)
  _ ← require 5 (in_range m)
  _ ← require 6 (every (λ t. not (same s t)) ts)
  _ ← require 10 (in_place s ts)
  accepted (map (λ t. oriented s t m) ts)

-- refusals 1, 9 and 2, then those of the sides; an equation for each right side, in job order
unfoldable pub read_find : List ℕ → Answer (List Job)
unfolding ◌>>=◌ require or_refuse layouts read_term read_terms accept_each
read_find bs = do
  _ ← require 1 (leb (length bs) 4096)
  j ← or_refuse 1 (layouts bs)
  _ ← require 9 (leb (length j.rights) 16)
  s ← or_refuse 2 (read_term j.left)
  ts ← or_refuse 2 (read_terms j.rights)
  accept_each s ts j.limits

-- the equation of left with a right side, not exchanged
abbrev pub job_of : Term → Limits → Term → Job
job_of s m t = record { left = s; right = t; limits = m }

-- the equations of left with each right side
abbrev pub jobs_of : Term → List Term → Limits → List Job
jobs_of s ts m = map (job_of s m) ts
